-- Reading undoes writing, and writing undoes reading.
use Rattle.std.proofs.Common.{◌≡◌, ℕ, ◌+◌, ◌-◌, ◌*◌, ◌/◌, ◌%◌, ◌<◌, cond, eqb, ◌⊎◌, List, length, get_or, take, drop, IfOk, Ok, Err, Result, sym, refl, ap, ◌∙◌, subst, inl, inr, arith}
use native.Mathlib.Nat.{div-add-mod}
use lib.Arith.{digits_div, digits_mod}
use Rattle.std.proofs.lemmas.List.{take_at, drop_at, ext_get_or, get_or-append-add, get_or_append_left}
use Rattle.grid.specs.Sides.{GoodSides, slot_count}
use Rattle.orderfile.specs.declared.fault.OrderFault.{OrderFault}
use Rattle.orderfile.specs.declared.fault.OrderFault.TheVariants.{BadSides, BadLength, BadMark, BadVersion, NoRule, BadEntry, NoRoom, NoMemory}
use Rattle.orderfile.specs.Records.{OrderView, Lists, numbers, kinds, words, sides_byte, header_bytes, record_bytes, list_bytes, rule_number, GoodOrder, Sized, Whole, slots_told, Entered, ReadRefused, ReadsBack, WriteRefused, Written, WritesBack}
use Rattle.orderfile.proofs.Wording.{high_word, low_word}
use Rattle.orderfile.proofs.Writing.{length_list_bytes, length_record}

-- the sides come out of their byte again
pub sides_height : (h w : ℕ) → GoodSides h w → sides_byte h w / 16 + 1 ≡ h
sides_height h w g = let low : w - 1 < 16 = omega arith in omega (arith, digits_div (h - 1) low)

pub sides_width : (h w : ℕ) → GoodSides h w → sides_byte h w % 16 + 1 ≡ w
sides_width h w g = let low : w - 1 < 16 = omega arith in omega (arith, digits_mod (h - 1) low)

told : (o : OrderView) → GoodOrder o → slots_told (record_bytes o) ≡ slot_count o.height o.width
told o g =
    let h = sides_height o.height o.width g.sides in
    let w = sides_width o.height o.width g.sides in
    cc

pub ruled : (l : Lists) → (rule_number l ≡ 1) ⊎ (rule_number l ≡ 2)
ruled (numbers wanted) = inl refl
ruled (kinds ks masks) = inr refl

whole_lists : (n : ℕ) (l : Lists) → Sized n l → length (list_bytes l) ≡ cond (eqb (rule_number l) 1) 2 3 * n
whole_lists n (numbers wanted) sized = length_list_bytes n (numbers wanted) sized
whole_lists n (kinds ks masks) sized = length_list_bytes n (kinds ks masks) sized

whole : (o : OrderView) → GoodOrder o → Whole (record_bytes o)
whole o g =
    let n = slot_count o.height o.width in
    length_record o
    ∙ ap (λ x. 7 + x) (whole_lists n o.lists g.sized)
    ∙ ap (λ x. 7 + cond (eqb (rule_number o.lists) 1) 2 3 * x) (sym (told o g))

-- a byte of the lists
body_byte : (o : OrderView) (i : ℕ) → get_or (record_bytes o) (7 + i) 0 ≡ get_or (list_bytes o.lists) i 0
body_byte o i =
    get_or-append-add (header_bytes o.height o.width (rule_number o.lists)) (list_bytes o.lists) i 0

-- a 16-bit entry of the lists
pub word_of : (es : List ℕ) (s : ℕ) → s < length es → get_or (words es) (2 * s) 0 * 256 + get_or (words es) (2 * s + 1) 0 ≡ get_or es s 0
word_of es s h = omega (arith, high_word es s h, low_word es s h, div-add-mod (get_or es s 0) 256)

entered_wanted :
    (h w : ℕ) (wanted : List ℕ) (g : GoodOrder (record { height = h; width = w; lists = numbers wanted }))
    → Entered (record_bytes (record { height = h; width = w; lists = numbers wanted }))
entered_wanted h w wanted g =
    let o : OrderView = record { height = h; width = w; lists = numbers wanted } in
    let long = g.sized in
    let n = told o g in
    record {
      wanted = λ e s below.
          let at : s < length wanted = omega arith in
          let high = body_byte o (2 * s) in
          let low = body_byte o (2 * s + 1) in
          let place : 7 + 2 * s + 1 ≡ 7 + (2 * s + 1) = omega arith in
          let low' : get_or (record_bytes o) (7 + 2 * s + 1) 0 ≡ get_or (words wanted) (2 * s + 1) 0 = ap (λ x. get_or (record_bytes o) x 0) place ∙ low in
          omega (arith, word_of wanted s at, g.entries s at);
      kinds = λ e. absurd (two_not_one e);
    }
  where
    two_not_one : ◌≡◌ {A = ℕ} 1 2 → ⊥
    two_not_one e = omega arith

entered_kinds :
    (h w : ℕ) (ks masks : List ℕ) (g : GoodOrder (record { height = h; width = w; lists = kinds ks masks }))
    → Entered (record_bytes (record { height = h; width = w; lists = kinds ks masks }))
entered_kinds h w ks masks g =
    let o : OrderView = record { height = h; width = w; lists = kinds ks masks } in
    let long = g.sized.0 in
    let n = told o g in
    record {
      wanted = λ e. absurd (one_not_two e);
      kinds = λ e c below.
          let at : c < length ks = omega arith in
          omega (arith, body_byte o c, get_or_append_left ks (words masks) 0 c at, g.entries c at);
    }
  where
    one_not_two : ◌≡◌ {A = ℕ} 2 1 → ⊥
    one_not_two e = omega arith

entered : (h w : ℕ) (l : Lists) (g : GoodOrder (record { height = h; width = w; lists = l })) → Entered (record_bytes (record { height = h; width = w; lists = l }))
entered h w (numbers wanted) g = entered_wanted h w wanted g
entered h w (kinds ks masks) g = entered_kinds h w ks masks g

-- the record of a good order is refused for want of memory alone
only_memory : (o : OrderView) → GoodOrder o → (f : OrderFault) → ReadRefused (record_bytes o) f → f ≡ NoMemory
only_memory o g BadSides why = absurd why
only_memory o g BadLength (inl short) = absurd (short (omega (arith, length_record o)))
only_memory o g BadLength (inr odd) = absurd (odd.4 (whole o g))
only_memory o g BadMark why = absurd (why.1 (refl, refl, refl))
only_memory o g BadVersion why = absurd (why.2 (refl, refl))
only_memory o g NoRule why = absurd (why.3 (ruled o.lists))
only_memory o g BadEntry why = absurd (why.5 (entered o.height o.width o.lists g))
only_memory o g NoRoom why = absurd why
only_memory o g NoMemory all = refl

-- the words determine the entries
words_same : (a b : List ℕ) → length a ≡ length b → words a ≡ words b → a ≡ b
words_same a b long same =
    ext_get_or 0 a b long
    (λ s h.
    let h' : s < length b = omega arith in
    sym (word_of a s h) ∙ ap (λ (x : List ℕ). get_or x (2 * s) 0 * 256 + get_or x (2 * s + 1) 0) same ∙ word_of b s h')

lists_same : (n : ℕ) (a b : Lists) → Sized n a → Sized n b → rule_number a ≡ rule_number b → list_bytes a ≡ list_bytes b → a ≡ b
lists_same n (numbers x) (numbers y) sa sb r e = ap numbers (words_same x y (omega arith) e)
lists_same n (numbers x) (kinds ks ms) sa sb r e = absurd (omega arith)
lists_same n (kinds ks ms) (numbers y) sa sb r e = absurd (omega arith)
lists_same n (kinds ks ms) (kinds ks' ms') sa sb r e =
    let kinds-equal : ks ≡ ks' =
    sym (take_at ks (words ms) n sa.0) ∙ ap (take n) e ∙ take_at ks' (words ms') n sb.0 in
    let masks-bytes : words ms ≡ words ms' =
    sym (drop_at ks (words ms) n sa.0) ∙ ap (drop n) e ∙ drop_at ks' (words ms') n sb.0 in
    let masks-equal : ms ≡ ms' = words_same ms ms' (sa.1 ∙ sym sb.1) masks-bytes in
    cc

make : ℕ → ℕ → Lists → OrderView
make h w l = record { height = h; width = w; lists = l }

made_same : {h w h' w' : ℕ} {l l' : Lists} → h ≡ h' → w ≡ w' → l ≡ l' → make h w l ≡ make h' w' l'
made_same e f g = cc

-- the bytes determine the order
order_same : (o p : OrderView) → GoodOrder o → GoodOrder p → record_bytes o ≡ record_bytes p → p ≡ o
unfolding make
order_same o p g k same =
    let byte : sides_byte o.height o.width ≡ sides_byte p.height p.width = ap (λ (x : List ℕ). get_or x 5 0) same in
    let rule : rule_number o.lists ≡ rule_number p.lists = ap (λ (x : List ℕ). get_or x 6 0) same in
    let body : list_bytes o.lists ≡ list_bytes p.lists = ap (drop 7) same in
    let h : p.height ≡ o.height =
    sym (sides_height p.height p.width k.sides) ∙ ap (λ x. x / 16 + 1) (sym byte) ∙ sides_height o.height o.width g.sides in
    let w : p.width ≡ o.width =
    sym (sides_width p.height p.width k.sides) ∙ ap (λ x. x % 16 + 1) (sym byte) ∙ sides_width o.height o.width g.sides in
    let n : slot_count o.height o.width ≡ slot_count p.height p.width = cc in
    let sized : Sized (slot_count o.height o.width) p.lists = subst (λ (m : ℕ). Sized m p.lists) (sym n) k.sized in
    let l : o.lists ≡ p.lists = lists_same (slot_count o.height o.width) o.lists p.lists g.sized sized rule body in
    made_same h w (sym l)

pub reads_back : (o : OrderView) (bytes : List ℕ) → GoodOrder o → bytes ≡ record_bytes o → ReadsBack o bytes
reads_back o bytes g e (Ok p) (good, is) = order_same o p g good (sym e ∙ is)
reads_back o bytes g e (Err f) why = only_memory o g f (subst (λ (x : List ℕ). ReadRefused x f) e why)

-- an order that a record holds is refused for want of room alone
only_room : (o : OrderView) (room : ℕ) → GoodOrder o → (f : OrderFault) → WriteRefused o (rule_number o.lists) room f → f ≡ NoRoom
only_room o room g BadSides why = absurd (why g.sides)
only_room o room g BadLength why = absurd (why.2 g.sized)
only_room o room g BadMark why = absurd why
only_room o room g BadVersion why = absurd why
only_room o room g NoRule why = absurd (why.1 (ruled o.lists))
only_room o room g BadEntry why = absurd (why.3 g.entries)
only_room o room g NoRoom why = refl
only_room o room g NoMemory why = absurd why

pub writes_back : (o : OrderView) (bytes : List ℕ) → GoodOrder o → bytes ≡ record_bytes o → WritesBack o bytes
writes_back o bytes g e buffer after (Ok n) w =
    ap (take n) w.4 ∙ take_at (record_bytes o) (drop n buffer) n (sym w.2) ∙ sym e
writes_back o bytes g e buffer after (Err f) w = only_room o (length buffer) g f w.0

-- what was written reads back
pub written_reads_back :
    (o : OrderView) (rule : ℕ) (buffer : List ℕ) (answer : Result ℕ OrderFault) (after : List ℕ)
    → Written o rule buffer answer after
    → IfOk answer (λ n. ReadsBack o (take n after))
written_reads_back o rule buffer (Ok n) after w =
    reads_back o (take n after) w.0 (ap (take n) w.4 ∙ take_at (record_bytes o) (drop n buffer) n (sym w.2))
written_reads_back o rule buffer (Err f) after w = tt

pub kinds_same : (a a' b b' : List ℕ) → a ≡ a' → b ≡ b' → kinds a b ≡ kinds a' b'
kinds_same a a' b b' e f = cc
