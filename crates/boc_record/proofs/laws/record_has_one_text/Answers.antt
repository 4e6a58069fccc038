use Rattle.std.proofs.Common.{◌∙◌, [], sym, refl}
use Rattle.boc_record.proofs.Wrote.{first_spells, second_spells}
use Rattle.boc_record.proofs.laws.record_has_one_text.Goals as goal

pub returns : goal.returns
returns c = record {
  either = λ text r. (
    λ t. (t.version, record { record_is = t.record_is; spelt = t.spelt; is = t.is }),
    λ (v, t). record { record_is = t.record_is; version = v; spelt = t.spelt; is = t.is },
  );
  one = λ v text other r t u. t.is ∙ sym u.is;
  first = λ r is. (
    λ t. (first_spells r is).0 t.spelt,
    λ all. record { record_is = is; spelt = (first_spells r is).1 all; is = refl },
  );
  second = λ r is. record { record_is = is; spelt = second_spells [] r.events; is = refl };
}
