-- The keys that are disclosed are held.
use Rattle.std.proofs.Common.{◌≡◌, ℕ, zero, suc, false, List, Option, Ok, Result, ◌+◌, ◌-◌, ◌*◌, ◌<◌, ◌≤◌, min, true, eqb, leb, sym, ◌⊎◌, refl, ap, ◌∙◌, inl, ⊎_elim, arith}
use Rattle.std.proofs.lemmas.Bool.{cond_both, cond-false, ne_eqb}
use Rattle.timing.specs.Time.{interval_at, parameters_of}
use Rattle.turns.specs.Turns.{disclosed}
use Rattle.turns.proofs.Laws.{disclosed_either}
use Rattle.segments.specs.declared.parts.Segments.{Segments}
use Rattle.segments.specs.Parts.{part_of, key_at}
use Rattle.segments.specs.Held.{held, last_of, drawn_of}
use Rattle.segments.specs.Held.{key_of as held_key}
use Rattle.std.specs.Option.{option_map}
use Rattle.timing.specs.declared.refusal.Refusal.{Refusal}
use Rattle.wire.specs.Formats.{key_encoded}
use Rattle.segments.proofs.Work.{enough}
use Rattle.sender.specs.State.{State, interval, newest, alone, key_of, shown_key, tick_bytes}

-- the newest, or a multiple of 1,024 below it
abbrev Either : (n j : ℕ) → Type 0
Either n j = (j ≡ n) ⊎ ((k : ℕ) × ((j ≡ 1024 * k) × (j ≤ n)))

alone_either : (s : State) → Either (newest s) (alone s)
alone_either s = cond_both (leb (interval s) s.numbers.last) (disclosed s.turn (newest s)) (newest s) (Either (newest s)) (λ e. disclosed_either s.turn (newest s)) (λ e. inl refl)

either_held : (c : Segments) (i n j : ℕ) → 0 < i → c.part ≡ part_of (last_of c) i → n ≡ min (i - (c.parameters.delay + 1)) (last_of c) → (j ≡ 0 → ⊥) → Either n j → held c j ≡ true
either_held c i n j pos at e some h =
    let all = enough c i pos at in
    ⊎_elim
    (λ (z : j ≡ n). rw (z, e) (all.1 (omega arith)))
    (λ (z : (k : ℕ) × ((j ≡ 1024 * k) × (j ≤ n))). rw z.1.0 (all.2 z.0 (omega (arith, z.1.0)) (omega (arith, z.1.0, z.1.1))))
    h

-- by itself
pub alone_held : (c : Segments) (clock j : ℕ) (u : State) → c.part ≡ part_of (last_of c) (interval_at (parameters_of c.parameters) clock) → parameters_of c.parameters ≡ u.numbers → clock ≡ u.clock →
    (j ≡ 0 → ⊥) → j ≡ alone u → held c j ≡ true
alone_held c clock j u at e f some is =
    let i = interval_at (parameters_of c.parameters) clock in
    let g : i ≡ interval u = ap (λ p. interval_at p clock) e ∙ ap (interval_at u.numbers) f in
    let d : c.parameters.delay ≡ u.numbers.delay = ap (λ p. p.delay) e in
    let l : c.parameters.last ≡ u.numbers.last = ap (λ p. p.last) e in
    either_held c i (newest u) j (omega arith) at (omega arith) some (rw is (alone_either u))

-- and so it is sent; key 0 is not held
pub alone_sent : (c : Segments) (s : State) (j : ℕ) → ((j ≡ 0 → ⊥) → held c j ≡ true) → key_at (last_of c) (drawn_of c) j ≡ key_of s j →
    ◌≡◌ {A = Result (Option (List ℕ)) Refusal} (Ok (option_map (λ key. key_encoded (record { interval = j; key = key })) (held_key c j))) (tick_bytes (shown_key s j))
alone_sent c s zero h e = refl
alone_sent c s (suc j) h e =
    let some : suc j ≡ 0 → ⊥ = λ z. cc in
    let g : held c (suc j) ≡ true = h some in
    let n : eqb (suc j) 0 ≡ false = ne_eqb (suc j) 0 some in
    rw (g, e) (sym (ap tick_bytes (cond-false (eqb (suc j) 0) _ _ n)))
