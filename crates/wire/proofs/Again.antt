-- What is read, written again, and what is cut.
use Rattle.std.proofs.Common.{◌≡◌, ℕ, ◌+◌, ◌<◌, ◌≤◌, Bool, true, false, cond, ◌&&◌, eqb, leb, ◌⊎◌, List, [], ◌∷◌, ◌++◌, length, get_or, take, drop, Some, None, Ok, Err, Result, sym, refl, ap, ◌∙◌, inl, inr, ⊎_elim, arith, length-drop}
use Rattle.std.proofs.lemmas.List.{take-append-drop, get_or-drop, get_or-take, length-take-le, drop_all, append-nil, nil_from_length}
use Rattle.std.proofs.lemmas.Bool.{and_parts, and_left, and_right, cases_lt, cond-false, eqb-true, leb-true, ne_eqb}
use Rattle.timing.specs.declared.refusal.Refusal.{Refusal}
use Rattle.timing.specs.declared.refusal.Refusal.TheVariants.{Malformed, BadSettings}
use Rattle.model.specs.Receiver.{Said, Event}
use Rattle.wire.specs.Bytes.{eight_at}
use Rattle.wire.specs.Fits.{Bytes}
use Rattle.wire.specs.Formats.{Key, Packet, key_part, key_part_in, said_bytes, said_in, behind_text, has_form, packet_in, message_encoded, read_message, key_encoded, read_key, air_event, message_event, key_event, tick_encoded, read_tick, delivery_encoded, read_delivery}
use Rattle.wire.specs.Laws.{event_encoded}
use Rattle.wire.specs.Setup.{Setup, setup_in, settings_encoded, settings_answer}
use Rattle.wire.proofs.Eight.{eight_again, spread_is}
use Rattle.wire.proofs.Whole.{two_high, two_low, key_part_again, said_again}

-- what a test and a `Some` behind it give
some_test : {A : Type 0} (t : Bool) (x y : A) → cond t (Some x) None ≡ Some y → (t ≡ true) × (x ≡ y)
some_test true x y e = (refl, cc)
some_test false x y e = let z : ◌≡◌ {A = ℕ} 0 1 = cc in absurd (omega arith)

some_tests : {A : Type 0} (t u : Bool) (x y z : A) → cond t (Some x) (cond u (Some y) None) ≡ Some z → ((t ≡ true) × (x ≡ z)) ⊎ ((u ≡ true) × (y ≡ z))
some_tests true u x y z e = inl (refl, cc)
some_tests false u x y z e = inr (some_test u y z e)

ok_tests : {A : Type 0} (t u : Bool) (x y : A) → ◌≡◌ {A = Result A Refusal} (cond t (cond u (Ok x) (Err BadSettings)) (Err Malformed)) (Ok y) → (t ≡ true) × (x ≡ y)
ok_tests true true x y e = (refl, cc)
ok_tests true false x y e = let z : ◌≡◌ {A = ℕ} 0 1 = cc in absurd (omega arith)
ok_tests false u x y e = let z : ◌≡◌ {A = ℕ} 0 1 = cc in absurd (omega arith)

pub record Formed (k n : ℕ) (b : List ℕ) : Type 0 where
  pub kind : get_or b 0 0 ≡ k
  pub short : get_or b 4 0 ≤ 200
  pub long : length b ≡ get_or b 4 0 + n

formed : (k n : ℕ) (b : List ℕ) → has_form k n b ≡ true → Formed k n b
formed k n b e =
    let p = and_parts _ _ e in
    let q = and_parts _ _ p.1 in
    record { kind = eqb-true (get_or b 0 0) k p.0; short = leb-true (get_or b 4 0) 200 q.0; long = eqb-true (length b) (get_or b 4 0 + n) q.1 }

bytes_drop : (n : ℕ) (b : List ℕ) → Bytes b → Bytes (drop n b)
bytes_drop n b t i = rw (get_or-drop n b i 0) (t (n + i))

form_again : (k n : ℕ) (b : List ℕ) → 5 ≤ n → Bytes b → Formed k n b → (b ≡ said_bytes k (said_in b) ++ behind_text b) × (length (behind_text b) + 5 ≡ n)
form_again k n b h t f =
    let l : length b ≡ get_or b 4 0 + n = f.long in
    (said_again b t (omega arith) ∙ ap (λ (x : ℕ). said_bytes x (said_in b) ++ behind_text b) f.kind, omega (arith, length-drop (get_or b 4 0) (drop 5 b), length-drop 5 b))

message_again : (b : List ℕ) → Bytes b → has_form 1 55 b ≡ true → message_encoded (packet_in b) ≡ b
message_again b t e =
    let f = form_again 1 55 b (omega arith) t (formed 1 55 b e) in
    let r : List ℕ = behind_text b in
    let l : 2 ≤ length (drop 16 r) = omega (arith, length-drop 16 r, f.1) in
    let k : drop 16 r ≡ key_part (key_part_in (drop 16 r)) = key_part_again (drop 16 r) (bytes_drop 16 r (bytes_drop (get_or b 4 0) (drop 5 b) (bytes_drop 5 b t))) l in
    sym (f.0 ∙ ap (λ (x : List ℕ). said_bytes 1 (said_in b) ++ x) (sym (take-append-drop 16 r) ∙ ap (λ (x : List ℕ). take 16 r ++ x) k))

key_again : (b : List ℕ) → Bytes b → (eqb (get_or b 0 0) 2 && eqb (length b) 35) ≡ true → key_encoded (key_part_in (drop 1 b)) ≡ b
key_again b t e =
    let p = and_parts _ _ e in
    let i : get_or b 0 0 ≡ 2 = eqb-true (get_or b 0 0) 2 p.0 in
    let l : length b ≡ 35 = eqb-true (length b) 35 p.1 in
    let k = key_part_again (drop 1 b) (bytes_drop 1 b t) (omega (arith, length-drop 1 b)) in
    sym (spread_is 1 0 b (omega arith) ∙ (ap (λ (x : ℕ). x ∷ drop 1 b) i ∙ ap (λ (x : List ℕ). 2 ∷ x) k))

delivery_again : (b : List ℕ) → Bytes b → has_form 16 5 b ≡ true → delivery_encoded (said_in b) ≡ b
delivery_again b t e =
    let f = form_again 16 5 b (omega arith) t (formed 16 5 b e) in
    let n : behind_text b ≡ [] = nil_from_length (behind_text b) (omega (arith, f.1)) in
    sym (f.0 ∙ (ap (λ (x : List ℕ). said_bytes 16 (said_in b) ++ x) n ∙ append-nil (delivery_encoded (said_in b))))

tick_again : (b : List ℕ) → Bytes b → (eqb (get_or b 0 0) 3 && eqb (length b) 9) ≡ true → tick_encoded (eight_at b 1) ≡ b
tick_again b t e =
    let p = and_parts _ _ e in
    let i : get_or b 0 0 ≡ 3 = eqb-true (get_or b 0 0) 3 p.0 in
    let l : length b ≡ 9 = eqb-true (length b) 9 p.1 in
    let n : drop 9 b ≡ [] = drop_all 9 b (omega arith) in
    let f : List ℕ → List ℕ = λ x. get_or b 1 0 ∷ get_or b 2 0 ∷ get_or b 3 0 ∷ get_or b 4 0 ∷ get_or b 5 0 ∷ get_or b 6 0 ∷ get_or b 7 0 ∷ get_or b 8 0 ∷ x in
    ap (λ (x : List ℕ). 3 ∷ x) (eight_again _ _ _ _ _ _ _ _ (t 1) (t 2) (t 3) (t 4) (t 5) (t 6) (t 7) (t 8) ∙ ap f (sym n)) ∙ sym (spread_is 9 0 b (omega arith) ∙ ap (λ (x : ℕ). x ∷ f (drop 9 b)) i)

settings_again : (b : List ℕ) → Bytes b → eqb (length b) 47 ≡ true → settings_encoded (setup_in b) ≡ b
settings_again b t e =
    let l : length b ≡ 47 = eqb-true (length b) 47 e in
    let d = eight_again _ _ _ _ _ _ _ _ (t 0) (t 1) (t 2) (t 3) (t 4) (t 5) (t 6) (t 7) in
    let g : ℕ → ℕ = λ i. get_or b i 0 in
    ap (λ (x : List ℕ). x ++ drop 8 (settings_encoded (setup_in b))) d ∙
    (rw (two_high (g 8) (g 9) (t 9), two_low (g 8) (g 9) (t 9), two_high (g 11) (g 12) (t 12), two_low (g 11) (g 12) (t 12), two_high (g 13) (g 14) (t 14), two_low (g 13) (g 14) (t 14)) (sym (spread_is 15 0 b (omega arith))))

pub message_written : (b : List ℕ) (x : Packet) → Bytes b → read_message b ≡ Some x → message_encoded x ≡ b
message_written b x t e = let p = some_test _ _ _ e in ap message_encoded (sym p.1) ∙ message_again b t p.0

pub key_written : (b : List ℕ) (k : Key) → Bytes b → read_key b ≡ Some k → key_encoded k ≡ b
key_written b k t e = let p = some_test _ _ _ e in ap key_encoded (sym p.1) ∙ key_again b t p.0

pub air_written : (b : List ℕ) (e : Event) → Bytes b → air_event b ≡ Some e → event_encoded e ≡ b
air_written b e t h =
    ⊎_elim (λ p. ap event_encoded (sym p.1) ∙ message_again b t p.0) (λ p. ap event_encoded (sym p.1) ∙ key_again b t p.0) (some_tests _ _ _ _ _ h)

pub tick_written : (b : List ℕ) (n : ℕ) → Bytes b → read_tick b ≡ Some n → tick_encoded n ≡ b
tick_written b n t e = let p = some_test _ _ _ e in ap tick_encoded (sym p.1) ∙ tick_again b t p.0

pub delivery_written : (b : List ℕ) (s : Said) → Bytes b → read_delivery b ≡ Some s → delivery_encoded s ≡ b
delivery_written b s t e = let p = some_test _ _ _ e in ap delivery_encoded (sym p.1) ∙ delivery_again b t p.0

pub settings_written : (b : List ℕ) (s : Setup) → Bytes b → settings_answer b ≡ Ok s → settings_encoded s ≡ b
settings_written b s t e = let p = ok_tests _ _ _ _ e in ap settings_encoded (sym p.1) ∙ settings_again b t p.0

-- cut: the length no longer fits
cut_long : (b : List ℕ) (n : ℕ) → n < length b → length (take n b) ≡ n
cut_long b n h = length-take-le n b (omega arith)

cut_form : (k m : ℕ) (b : List ℕ) (n : ℕ) → 5 ≤ m → Formed k m b → n < length b → has_form k m (take n b) ≡ false
cut_form k m b n h f l =
    let c : List ℕ = take n b in
    let long : length b ≡ get_or b 4 0 + m = f.long in
    let no : length c ≡ get_or c 4 0 + m → ⊥ =
    λ e. ⊎_elim (λ g. omega (arith, cut_long b n l, get_or-take n b 4 0 g)) (λ g. omega (arith, cut_long b n l)) (cases_lt 4 n) in
    and_right (eqb (get_or c 0 0) k) _ (and_right (leb (get_or c 4 0) 200) _ (ne_eqb (length c) (get_or c 4 0 + m) no))

cut_kind : (b : List ℕ) (n j k : ℕ) → get_or b 0 0 ≡ j → (j ≡ k → ⊥) → (0 ≡ k → ⊥) → eqb (get_or (take n b) 0 0) k ≡ false
cut_kind b n j k e h z =
    let no : get_or (take n b) 0 0 ≡ k → ⊥ = λ g. ⊎_elim (λ l. h (omega (arith, get_or-take n b 0 0 l))) (λ l. z (omega (arith, cut-none b n l))) (cases_lt 0 n) in
    ne_eqb (get_or (take n b) 0 0) k no
  where
    cut-none : (b : List ℕ) (n : ℕ) → n ≤ 0 → get_or (take n b) 0 0 ≡ 0
    cut-none b n l = let e : n ≡ 0 = omega arith in rw e

cut_sized : (b : List ℕ) (n m : ℕ) → length b ≡ m → n < length b → eqb (length (take n b)) m ≡ false
cut_sized b n m e l = ne_eqb (length (take n b)) m (λ g. omega (arith, cut_long b n l, g))

air_none : (b : List ℕ) → has_form 1 55 b ≡ false → (eqb (get_or b 0 0) 2 && eqb (length b) 35) ≡ false → air_event b ≡ None
air_none b m k = cond-false _ _ _ m ∙ cond-false _ _ _ k

pub air_cut : (b : List ℕ) (e : Event) (n : ℕ) → air_event b ≡ Some e → n < length b → air_event (take n b) ≡ None
air_cut b e n h l = ⊎_elim message key (some_tests _ _ _ _ _ h)
  where
    message : (has_form 1 55 b ≡ true) × (message_event (packet_in b) ≡ e) → air_event (take n b) ≡ None
    message p =
        let f = formed 1 55 b p.0 in
        air_none (take n b) (cut_form 1 55 b n (omega arith) f l) (and_left _ _ (cut_kind b n 1 2 f.kind (λ z. omega arith) (λ z. omega arith)))

    key : ((eqb (get_or b 0 0) 2 && eqb (length b) 35) ≡ true) × (key_event (key_part_in (drop 1 b)) ≡ e) → air_event (take n b) ≡ None
    key p =
        let q = and_parts _ _ p.0 in
        air_none (take n b) (and_left _ _ (cut_kind b n 2 1 (eqb-true (get_or b 0 0) 2 q.0) (λ z. omega arith) (λ z. omega arith))) (and_right _ _ (cut_sized b n 35 (eqb-true (length b) 35 q.1) l))

pub tick_cut : (b : List ℕ) (t n : ℕ) → read_tick b ≡ Some t → n < length b → read_tick (take n b) ≡ None
tick_cut b t n e l =
    let q = and_parts _ _ (some_test _ _ _ e).0 in cond-false _ _ _ (and_right _ _ (cut_sized b n 9 (eqb-true (length b) 9 q.1) l))

pub delivery_cut : (b : List ℕ) (s : Said) (n : ℕ) → read_delivery b ≡ Some s → n < length b → read_delivery (take n b) ≡ None
delivery_cut b s n e l = cond-false _ _ _ (cut_form 16 5 b n (omega arith) (formed 16 5 b (some_test _ _ _ e).0) l)

pub settings_cut : (b : List ℕ) → (length b ≡ 47 → ⊥) → settings_answer b ≡ Err Malformed
settings_cut b h = cond-false _ _ _ (ne_eqb (length b) 47 h)
