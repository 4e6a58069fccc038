use Rattle.std.proofs.Common.{rules}
use Rattle.std.specs.Prelude.{option_map}
use Rattle.boc_page.specs.Blocks.{IsBlock}
use Rattle.boc_page.proofs.InertBlock.{inert_block}
use Rattle.boc_page.proofs.block.data_block.Goals as goal

pub returns-clause-inert : goal.returns-clause-inert
returns-clause-inert c = let b : IsBlock c.args.block.now (option_map (λ s. s.now) c.args.block.now.source) c.push.new.self.items = search rules in
    inert_block c.args.block.now (option_map (λ s. s.now) c.args.block.now.source) c.push.new.self.items b
