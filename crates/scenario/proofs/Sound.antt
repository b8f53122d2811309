-- What a script plays is judged by its settings.
use Rattle.std.proofs.Common.{◌≡◌, ℕ, ◌+◌, ◌≤◌, Bool, true, false, cond, ◌&&◌, eqb, leb, List, [], ◌∷◌, ◌++◌, length, is_some, IfOk, Some, None, Ok, Err, vec_items, Option, Result, Vec, sym, refl, ap, ◌∙◌, subst, arith}
use Rattle.std.proofs.lemmas.Bool.{and_parts, leb-true}
use Rattle.std.specs.declared.alloc.Global.{Global}
use Rattle.timing.specs.Clocks.{clocks_answer, clocks_after}
use Rattle.timing.specs.Time.{Params, params, in_range}
use Rattle.timing.specs.declared.refusal.Refusal.{Refusal}
use Rattle.timing.specs.declared.refusal.Refusal.TheVariants.{Malformed, OutOfRange, BadSettings}
use Rattle.script.specs.Commands.{Order, line_of}
use Rattle.script.specs.Commands as order
use Rattle.script.specs.Text.{words, lines_of}
use Rattle.scenario.specs.declared.arrival.Arrival.{Arrival}
use Rattle.script.specs.declared.error.Error.{Error}
use Rattle.scenario.specs.Laws.{AllRight, JudgedBySettings}
use Rattle.scenario.specs.Plays.{fault_at, played, playing, Plays}
use Rattle.scenario.specs.Scenes.{at_zero, clock_answer, clock_after, arrivals}
use Rattle.scenario.specs.States.{State, state, start, with_clocks, after_told, gathered, messaged, finished, followed, stepped}
use Rattle.scenario.specs.declared.scene.Scene.TheVariants.{Bare}
use Rattle.script.specs.Reading.{Runs}
use Rattle.scenario.proofs.Lines.{onward, played_line, lines_end, steps, ends, read_plays}

-- before the settings there is nothing, and after them all is right by them
abbrev Sound : Option Params → List ℕ → List Arrival → Bool → Type 0
Sound None cs hs b = (cs ≡ []) × (hs ≡ []) × (b ≡ false)
Sound (Some p) cs hs b = (in_range p ≡ true) × AllRight p hs

abbrev Is : State → Type 0
Is s = Sound s.settings s.clocks s.heard s.ended

no : {R : Type 0} (e : Refusal) (t : State) → ◌≡◌ {A = Result State Refusal} (Err e) (Ok t) → R
no e t h = let z : ◌≡◌ {A = ℕ} 0 1 = cc in absurd (omega arith)

-- past a refusal
past : (b : Bool) (e : Refusal) (y : Result State Refusal) (t : State) → cond b (Err e) y ≡ Ok t → y ≡ Ok t
past true e y t h = no e t h
past false e y t h = h

-- where the test held
held : (b : Bool) (x : Result State Refusal) (e : Refusal) (t : State) → cond b x (Err e) ≡ Ok t → (b ≡ true) × (x ≡ Ok t)
held true x e t h = (refl, h)
held false x e t h = no e t h

same : (x t : State) → ◌≡◌ {A = Result State Refusal} (Ok x) (Ok t) → x ≡ t
same x t h = cc

settled_is : (o : Option Params) (cs : List ℕ) (hs : List Arrival) (b : Bool) (q : Params) (t : State) → Sound o cs hs b →
    cond (is_some o) (Err Malformed) (cond (in_range q) (Ok (state (Some q) cs hs b)) (Err BadSettings)) ≡ Ok t → Is t
settled_is (Some p) cs hs b q t s h = no Malformed t h
settled_is None cs hs b q t s h =
    let y = held (in_range q) (Ok (state (Some q) cs hs b)) BadSettings t h in
    subst Is (same _ t y.1) (y.0, subst (AllRight q) (sym s.1) tt)

clocked : (p : Params) (cs : List ℕ) (hs : List Arrival) (b : Bool) (r : Result (List ℕ) Refusal) (t : State) → Sound (Some p) cs hs b →
    with_clocks (state (Some p) cs hs b) r ≡ Ok t → Is t
clocked p cs hs b (Ok ds) t s h = subst Is (same _ t h) s
clocked p cs hs b (Err e) t s h = no e t h

gathered_is : (o : Option Params) (cs : List ℕ) (hs : List Arrival) (b : Bool) (n : ℕ) (t : State) → Sound o cs hs b → gathered (state o cs hs b) n ≡ Ok t → Is t
gathered_is None cs hs b n t s h = no Malformed t h
gathered_is (Some p) cs hs b n t s h =
    clocked p cs hs b (at_zero n) t s (held (eqb (length cs) 0) (with_clocks (state (Some p) cs hs b) (at_zero n)) Malformed t h).1

told : (p : Params) (cs ds : List ℕ) (hs : List Arrival) (b : Bool) (r : Result Unit Refusal) (t : State) → Sound (Some p) cs hs b →
    after_told (state (Some p) cs hs b) r ds ≡ Ok t → Is t
told p cs ds hs b (Ok u) t s h = subst Is (same _ t h) s
told p cs ds hs b (Err e) t s h = no e t h

-- no order but the first two goes without receivers
nobody : {R : Type 0} (cs : List ℕ) (y : Result State Refusal) (t : State) → cs ≡ [] → cond (eqb (length cs) 0) (Err Malformed) y ≡ Ok t → R
nobody cs y t e h = no Malformed t (sym (ap (λ x. cond (eqb (length x) 0) (Err Malformed) y) e) ∙ h)

told_is : (o : Option Params) (cs ds : List ℕ) (hs : List Arrival) (b : Bool) (r : Result Unit Refusal) (t : State) → Sound o cs hs b →
    cond (eqb (length cs) 0) (Err Malformed) (after_told (state o cs hs b) r ds) ≡ Ok t → Is t
told_is None cs ds hs b r t s h = nobody cs (after_told (state None cs hs b) r ds) t s.0 h
told_is (Some p) cs ds hs b r t s h = told p cs ds hs b r t s (past (eqb (length cs) 0) Malformed (after_told (state (Some p) cs hs b) r ds) t h)

right_join : (p : Params) (hs ks : List Arrival) → AllRight p hs → AllRight p ks → AllRight p (hs ++ ks)
right_join p [] ks a b = b
right_join p (h ∷ hs) ks a b = (a.0, right_join p hs ks a.1 b)

right_here : (p : Params) (l i r : ℕ) (cs : List ℕ) → 1 ≤ i → i ≤ p.last → AllRight p (arrivals p l i r cs)
unfolding arrivals
right_here p l i r [] a b = tt
right_here p l i r (c ∷ cs) a b = ((refl, a, b), right_here p l i (r + 1) cs a b)

messaged_is : (o : Option Params) (cs : List ℕ) (hs : List Arrival) (b : Bool) (l i : ℕ) (t : State) → Sound o cs hs b → messaged l (state o cs hs b) i ≡ Ok t → Is t
messaged_is None cs hs b l i t s h = no Malformed t h
messaged_is (Some p) cs hs b l i t s h =
    let next = Ok (state (Some p) cs (hs ++ arrivals p l i 1 cs) b) in
    let y = held (leb 1 i && leb i p.last) next OutOfRange t (past (eqb (length cs) 0) Malformed (cond (leb 1 i && leb i p.last) next (Err OutOfRange)) t h) in
    let z = and_parts (leb 1 i) (leb i p.last) y.0 in
    subst Is (same _ t y.1) (s.0, right_join p hs (arrivals p l i 1 cs) s.1 (right_here p l i 1 cs (leb-true 1 i z.0) (leb-true i p.last z.1)))

finished_is : (o : Option Params) (cs : List ℕ) (hs : List Arrival) (b : Bool) (t : State) → Sound o cs hs b → finished (state o cs hs b) ≡ Ok t → Is t
finished_is None cs hs b t s h = nobody cs (Ok (state None cs hs true)) t s.0 h
finished_is (Some p) cs hs b t s h = subst Is (same _ t (past (eqb (length cs) 0) Malformed (Ok (state (Some p) cs hs true)) t h)) s

followed_is : (l : ℕ) (s : State) (o : Order) (t : State) → Is s → followed l s o ≡ Ok t → Is t
followed_is l s (order.settings i d e n) t a h = settled_is s.settings s.clocks s.heard s.ended (params i d e n) t a h
followed_is l s (order.receivers n) t a h = gathered_is s.settings s.clocks s.heard s.ended n t a h
followed_is l s (order.clocks ts) t a h = told_is s.settings s.clocks (clocks_after s.clocks ts) s.heard s.ended (clocks_answer s.clocks ts) t a h
followed_is l s (order.clock r i) t a h = told_is s.settings s.clocks (clock_after s.clocks r i) s.heard s.ended (clock_answer s.clocks r i) t a h
followed_is l s (order.message i) t a h = messaged_is s.settings s.clocks s.heard s.ended l i t a h
followed_is l s order.end t a h = finished_is s.settings s.clocks s.heard s.ended t a h

stepped_is : (l : ℕ) (s : State) (r : Result (Option Order) Refusal) (t : State) → Is s → stepped l s r ≡ Ok t → Is t
stepped_is l s (Ok None) t a h = subst Is (same s t h) a
stepped_is l s (Ok (Some o)) t a h = followed_is l s o t a (past s.ended Malformed (followed l s o) t h)
stepped_is l s (Err e) t a h = no e t h

ended_is : (o : Option Params) (cs : List ℕ) (hs : List Arrival) (b : Bool) (n : ℕ) (xs : List Arrival) → Sound o cs hs b → cond b (Ok hs) (Err (fault_at n Malformed)) ≡ Ok xs → JudgedBySettings xs
ended_is (Some p) cs hs true n xs s h = let q : hs ≡ xs = cc in (p, s.0, subst (AllRight p) q s.1)
ended_is (Some p) cs hs false n xs s h = let z : ◌≡◌ {A = ℕ} 0 1 = cc in absurd (omega arith)
ended_is None cs hs true n xs s h = let w : ◌≡◌ {A = Bool} true false = s.2 in let z : ◌≡◌ {A = ℕ} 0 1 = cc in absurd (omega arith)
ended_is None cs hs false n xs s h = let z : ◌≡◌ {A = ℕ} 0 1 = cc in absurd (omega arith)

on : (n : ℕ) (ls : List (List ℕ)) (xs : List Arrival) → ((t : State) → Is t → played (n + 1) t ls ≡ Ok xs → JudgedBySettings xs) →
    (r : Result State Refusal) → ((t : State) → r ≡ Ok t → Is t) → onward n ls r ≡ Ok xs → JudgedBySettings xs
on n ls xs more (Ok t) k h = more t (k t refl) h
on n ls xs more (Err e) k h = let z : ◌≡◌ {A = ℕ} 0 1 = cc in absurd (omega arith)

played_is : (n : ℕ) (s : State) (ls : List (List ℕ)) (xs : List Arrival) → Is s → played n s ls ≡ Ok xs → JudgedBySettings xs
played_is n s [] xs a h = ended_is s.settings s.clocks s.heard s.ended n xs a (sym (lines_end n s) ∙ h)
played_is n s (l ∷ ls) xs a h =
    on n ls xs (λ t b e. played_is (n + 1) t ls xs b e) (stepped (n + 1) s (line_of (words l))) (λ t e. stepped_is (n + 1) s (line_of (words l)) t a e) (sym (played_line n s l ls) ∙ h)

pub judged_by_settings : (b : List ℕ) (xs : List Arrival) → playing b ≡ Ok xs → JudgedBySettings xs
judged_by_settings b xs h = played_is 0 start (lines_of b) xs (refl, refl, refl) h

pub judged_where_played : (b : List ℕ) (r : Result (Vec Arrival Global) Error) → Plays r (playing b) → IfOk r (λ v. JudgedBySettings (vec_items v))
judged_where_played b (Ok v) h = judged_by_settings b (vec_items v) h
judged_where_played b (Err e) h = tt

pub read_judged : (b : List ℕ) (r : Result (Vec Arrival Global) Error) → Runs steps ends 0 Bare (lines_of b) r → IfOk r (λ v. JudgedBySettings (vec_items v))
read_judged b r h = judged_where_played b r (read_plays b r h)
