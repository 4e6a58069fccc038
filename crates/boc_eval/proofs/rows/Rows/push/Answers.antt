use Rattle.std.proofs.Common.{refl, rules, ◌≡◌, ◌+◌, ◌∙◌, ap, length, length-append}
use Rattle.boc_runs.specs.Serial.{Behaviour}
use Rattle.boc_eval.specs.declared.rows.Row.{Row}
use Rattle.boc_eval.specs.declared.rows.Rows.{Rows}
use Rattle.boc_eval.proofs.Added.{adds, Adds}
use Rattle.boc_eval.proofs.rows.Rows.push.Goals as goal

-- the rows after it
after : goal.In_ok-push → Rows
after c = record { rows = c.push.new.self; args = c.push_each.new.list; cowns = c.push_each-2.new.list }

-- the behaviour that was added
added : goal.In_ok-push → Behaviour
added c = record { kind = c.args.kind; args = c.args.args.now; cowns = c.args.cowns.now }

holds : (c : goal.In_ok-push) → Adds c.args.self.now (after c) (added c)
unfolding after added
holds c =
    let old : Rows = c.args.self.now in
    let n : length c.push_each.new.list.items ≡ length old.args.items + length c.args.args.now =
    ap length c.in_ok-push_each.ensures ∙ length-append old.args.items c.args.args.now in
    let m : length c.push_each-2.new.list.items ≡ length old.cowns.items + length c.args.cowns.now =
    ap length c.in_ok-push_each-2.ensures ∙ length-append old.cowns.items c.args.cowns.now in
    let r : Row = record {
      kind = c.args.kind;
      args = record { from = c.len-args_from.result; to = c.len.result };
      cowns = record { from = c.len-cowns_from.result; to = c.len-2.result };
    } in
    adds old (after c) r (added c) c.requires.sound c.requires.few c.requires.few_args c.requires.few_cowns c.in_ok-push_each.ensures
    c.in_ok-push_each-2.ensures c.in_ok-push.ensures.items refl (search rules) (search rules) (search rules) (search rules)

pub returns-clause-sound : goal.returns-clause-sound
unfolding after added
returns-clause-sound c = (holds c).sound

pub returns-clause-behaviours : goal.returns-clause-behaviours
unfolding after added
returns-clause-behaviours c = (holds c).behaviours
