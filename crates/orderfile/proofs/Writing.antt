-- What writing leaves in a buffer.
use Rattle.std.proofs.Common.{◌≡◌, ℕ, ◌+◌, ◌-◌, ◌*◌, List, ◌++◌, length, drop, sym, ap, ◌∙◌, subst, arith}
use borrow.Rule.Slice.PartMut.{put_mid}
use Rattle.std.proofs.lemmas.List.{take_at, drop_at, drop-drop, append_assoc, length-append}
use Rattle.grid.specs.Sides.{GoodSides, slot_count}
use Rattle.orderfile.specs.Records.{OrderView, Lists, numbers, kinds, words, record_bytes, list_bytes, header_bytes, rule_number, GoodOrder, GoodEntries, WordLists, Sized}
use Rattle.orderfile.specs.RuleNames.{rule_name_number, entry_size}
use Rattle.orderfile.specs.declared.rule_name.RuleName.{RuleName}
use Rattle.orderfile.specs.declared.rule_name.RuleName.TheVariants.{Number, Kind}
use Rattle.orderfile.proofs.Wording.{length_words}

-- a front is written, and then a body after it
pub placed :
    (a k : ℕ) (front body out : List ℕ)
    → length front ≡ a
    → put_mid a k (front ++ drop a out) body ≡ (front ++ body) ++ drop (a + k) out
placed a k front body out long =
    simp (take_at front (drop a out) a long, drop_at front (drop a out) a long, drop-drop, append_assoc)

-- what is written: the header and the lists
pub wrote :
    (o : OrderView) (n e : ℕ) (header body out : List ℕ)
    → header ≡ header_bytes o.height o.width (rule_number o.lists)
    → body ≡ list_bytes o.lists
    → e ≡ 7 + n
    → put_mid 7 (e - 7) (header ++ drop 7 out) body ≡ record_bytes o ++ drop e out
wrote o n e header body out h b at =
    let long : length header ≡ 7 = ap length h in
    let far : 7 + (e - 7) ≡ e = omega arith in
    let at-far : drop (7 + (e - 7)) out ≡ drop e out = ap (λ (x : ℕ). drop x out) far in
    let first = placed 7 (e - 7) header body out long in
    let same : (header ++ body) ++ drop (7 + (e - 7)) out ≡ record_bytes o ++ drop e out = cc in
    first ∙ same

pub length_list_bytes : (n : ℕ) (l : Lists) → Sized n l → length (list_bytes l) ≡ (rule_number l + 1) * n
length_list_bytes n (numbers wanted) long = omega (arith, length_words wanted)
length_list_bytes n (kinds ks masks) long =
    omega (arith, length_words masks, length-append ks (words masks), long.0, long.1)

-- as many bytes as there are for each slot
pub length_entries :
    (name : RuleName) (size n : ℕ) (l : Lists)
    → size ≡ entry_size name
    → rule_name_number name ≡ rule_number l
    → Sized n l
    → size * n ≡ length (list_bytes l)
length_entries Number size n l e is long = ap (λ (k : ℕ). k * n) (e ∙ ap (λ (k : ℕ). k + 1) is) ∙ sym (length_list_bytes n l long)
length_entries Kind size n l e is long = ap (λ (k : ℕ). k * n) (e ∙ ap (λ (k : ℕ). k + 1) is) ∙ sym (length_list_bytes n l long)

pub length_record : (o : OrderView) → length (record_bytes o) ≡ 7 + length (list_bytes o.lists)
length_record o = length-append (header_bytes o.height o.width (rule_number o.lists)) (list_bytes o.lists)

-- an order of good sides and lists is one that a record can hold
pub good_order :
    (h w n : ℕ) (l : Lists)
    → GoodSides h w
    → n ≡ slot_count h w
    → Sized n l
    → GoodEntries l
    → WordLists l
    → GoodOrder (record { height = h; width = w; lists = l })
good_order h w n l sides many sized entries fits =
    record { sides = sides; sized = subst (λ (k : ℕ). Sized k l) many sized; entries = entries; fits = fits }
