-- Words are one configuration at most, so what a configuration's check establishes has one proof at most.
use Rattle.std.specs.Prelude.{◌≡◌, List, ℤ}
use Rattle.std.proofs.Math.Path.{sym, ◌∙◌}
use Rattle.std.proofs.Math.Dec.{T_prop}
use Rattle.std.specs.Coded.{Coded-set, coded_ℤ, coded_list}
use mathlib.Core.HLevel.{is_prop→PathP}
use mathlib.Core.Option.{some-injective}
use Rattle.minuska.specs.Term.{Term, single}
use Rattle.minuska.specs.Word.{encode}
use Rattle.minuska.specs.Rule.{ok_configuration, IsConfiguration}
use Rattle.minuska.specs.Bridge.Place.{Accepted}
use Rattle.minuska.proofs.ConfigurationLaw.{read_configuration_iff}

one_configuration : (ws : List ℤ) (s t : Term) → IsConfiguration ws s → IsConfiguration ws t → s ≡ t
one_configuration ws s t p q = some-injective s t (sym ((read_configuration_iff ws s).1 p) ∙ (read_configuration_iff ws t).1 q)

IsConfiguration-prop : (ws : List ℤ) (g : Term) → IsProp (IsConfiguration ws g)
IsConfiguration-prop ws g x y =
    λ i. record {
      accepted = T_prop (ok_configuration g) x.accepted y.accepted i;
      words = Coded-set (coded_list coded_ℤ) (encode (single g)) ws x.words y.words i;
    }

pub Accepted-prop : (ws : List ℤ) → IsProp (Accepted ws)
Accepted-prop ws x y =
    let same : x.term ≡ y.term = one_configuration ws x.term y.term x.is y.is in
    λ i. record {
      term = same i;
      is = is_prop→PathP (λ j. IsConfiguration ws (same j)) (λ j. IsConfiguration-prop ws (same j)) x.is y.is i;
    }
