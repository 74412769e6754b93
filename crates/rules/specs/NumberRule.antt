-- What a number rule means, and when it is made.
use Rattle.std.specs.Prelude.{◌≡◌, ℕ, Bool, true, false, ◌&&◌, List, length, Ok, Err, vec_items, Result, ◌==◌, nat_lt, slice_index, refl}
use Rattle.std.proofs.Common.{ap, ltb-true, le-ltb, ne_eqb, arith}
use Rattle.rules.specs.Rules.{RuleView, Bounded}
use Rattle.rules.specs.Entries.{GoodWanted}
use Rattle.rules.specs.declared.fault.RuleFault.{RuleFault}
use Rattle.rules.specs.declared.number.NumberRule.{NumberRule}

-- slot s admits the carrier that it wants, out of as many carriers as there are slots
abbrev pub wanting : List ℕ → RuleView
wanting wanted =
    record {
      slots = length wanted;
      carriers = length wanted;
      admits = λ s c. nat_lt s (length wanted) && (slice_index wanted s == c);
    }

abbrev pub number_meaning : NumberRule → RuleView
number_meaning r = wanting (vec_items r.wanted)

abbrev pub NumberMade : List ℕ → Result NumberRule RuleFault → Type 0
NumberMade wanted (Ok r) = vec_items r.wanted ≡ wanted
NumberMade wanted (Err f) = GoodWanted wanted → ⊥

and_no : (b x : Bool) → (b ≡ true → x ≡ false) → b && x ≡ false
and_no true x h = h refl
and_no false x h = refl

wanting_bounded : (wanted : List ℕ) → GoodWanted wanted → Bounded (wanting wanted)
wanting_bounded wanted good =
    record {
      no_slot = λ s c h. ap (λ (b : Bool). b && slice_index wanted s == c) (le-ltb s (length wanted) h);
      no_carrier =
          λ s c h.
          and_no (nat_lt s (length wanted)) (slice_index wanted s == c)
          (λ e. ne_eqb (slice_index wanted s) c (λ same. omega (arith, good s (ltb-true s (length wanted) e))));
    }

-- outside its numbers the rule replies no
pub number_bounded : (r : NumberRule) → Bounded (number_meaning r)
number_bounded r = wanting_bounded (vec_items r.wanted) r.good
