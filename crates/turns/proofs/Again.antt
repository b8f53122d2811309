-- A receiver that missed any number of intervals has the newest key again.
use Rattle.std.proofs.Common.{◌≡◌, ℕ, ◌+◌, ◌-◌, ◌*◌, ◌/◌, ◌<◌, ◌≤◌, Bool, true, false, cond, ltb, ◌⊎◌, List, [], ◌∷◌, length, inl, inr, ⊎_elim, arith}
use Rattle.std.proofs.lemmas.Bool.{le-ltb, lt-ltb, cases_eq, cases_lt}
use Rattle.std.proofs.lemmas.Bool.Decides.{nat_tests}
use Rattle.turns.specs.declared.Turn.{Turn}
use Rattle.turns.specs.declared.Turn.TheVariants.{Newest, Multiple}
use Rattle.turns.specs.Turns.{disclosed, afterwards, next_multiple}
use Rattle.turns.specs.Laws.{learned, Caught, Rising, CatchesUp}
use Rattle.turns.proofs.Laws.{dist, turn, dist_some, dist_most, dist_less}

caught_step : (t t' : Turn) (r r' n j : ℕ) (ns : List ℕ) → disclosed t n ≡ j → afterwards t n ≡ t' → learned r j ≡ r'
    → (r' ≡ n) ⊎ Caught t' r' ns → Caught t r (n ∷ ns)
caught_step t t' r r' n j ns e f g h = rw (e, f, g) h

learned_newest : (r n : ℕ) → r ≤ n → n ≤ r + 1024 → learned r n ≡ n
learned_newest r n h k = grind (arith, nat_tests)

learned_none : (r n : ℕ) → r + 1024 < n → learned r n ≡ r
learned_none r n h = grind (arith, nat_tests)

learned_next : (r a : ℕ) → a ≡ r / 1024 + 1 → learned r (1024 * a) ≡ 1024 * a
learned_next r a e = grind (arith, nat_tests)

learned_other : (r a : ℕ) → (a ≡ r / 1024 + 1 → ⊥) → learned r (1024 * a) ≡ r
learned_other r a e = grind (arith, nat_tests)

-- the multiples' turns that it takes at most until the newest is near
abbrev more : (a r : ℕ) → ℕ
more a r = cond (ltb r 15360) (dist a (r / 1024 + 1) + (14 - r / 1024)) 0

more_most : (a r : ℕ) → more a r ≤ 30
more_most a r = ⊎_elim (λ h. rw (lt-ltb r 15360 h) (omega (arith, dist_most a (r / 1024 + 1) (omega arith)))) (λ h. rw (le-ltb r 15360 h) (omega arith)) (cases_lt r 15360)

more_some : (a r : ℕ) → r < 15360 → 0 < more a r
more_some a r h = rw (lt-ltb r 15360 h) (omega (arith, dist_some a (r / 1024 + 1) (omega arith)))

more_next : (a r : ℕ) → r + 1024 < 16384 → more (r / 1024 + 1) (1024 * (r / 1024 + 1)) < more a r
more_next a r h = let k = r / 1024 + 1 in
    let s = dist_some a k (omega arith) in
    let d : 1024 * k / 1024 ≡ k = omega arith in
    rw (lt-ltb r 15360 (omega arith), d)
    (⊎_elim
    (λ l. rw (lt-ltb (1024 * k) 15360 l, lt-ltb k (k + 1) (omega arith)) (omega arith))
    (λ l. rw (le-ltb (1024 * k) 15360 l) (omega arith))
    (cases_lt (1024 * k) 15360))

more_other : (a r n : ℕ) → r + 1024 < n → n ≤ 16384 → (next_multiple a n ≡ r / 1024 + 1 → ⊥) → more (next_multiple a n) r < more a r
more_other a r n h k ne = let s = dist_less a (r / 1024 + 1) n (omega arith) (omega arith) k ne in rw (lt-ltb r 15360 (omega arith)) (omega arith)

pub rising_from : (r n : ℕ) (ns : List ℕ) → r ≤ n → Rising n ns → Rising r ns
rising_from r n [] h u = tt
rising_from r n (m ∷ ns) h u = (omega (arith, u.0), u.1, u.2)

more_less : (a r n : ℕ) → r + 1024 < n → n ≤ 16384 → more (next_multiple a n) (learned r (1024 * next_multiple a n)) < more a r
more_less a r n h k =
    ⊎_elim
    (λ (e : next_multiple a n ≡ r / 1024 + 1). rw (learned_next r (next_multiple a n) e, e) (more_next a r (omega arith)))
    (λ (ne : next_multiple a n ≡ r / 1024 + 1 → ⊥). rw (learned_other r (next_multiple a n) ne) (more_other a r n h k ne))
    (cases_eq (next_multiple a n) (r / 1024 + 1))

-- what is heard is at most the newest
learned_most : (a r n : ℕ) → 1024 ≤ n → r ≤ n → learned r (1024 * next_multiple a n) ≤ n
learned_most a r n h k = grind (arith, nat_tests)

-- while no multiple may be disclosed
near : (t : Turn) (r n : ℕ) (ns : List ℕ) → n < 1024 → r ≤ n → Caught t r (n ∷ ns)
near t r n ns h k = rw (lt-ltb n 1024 h) (inl (learned_newest r n k (omega arith)))

at_newest : (a r n : ℕ) (ns : List ℕ) → 1024 ≤ n → (learned r n ≡ n) ⊎ Caught (turn true a) (learned r n) ns → Caught (turn false a) r (n ∷ ns)
at_newest a r n ns h c = rw (le-ltb n 1024 h) c

at_multiple : (a r n : ℕ) (ns : List ℕ) → 1024 ≤ n → Caught (turn false (next_multiple a n)) (learned r (1024 * next_multiple a n)) ns → Caught (turn true a) r (n ∷ ns)
at_multiple a r n ns h c = rw (le-ltb n 1024 h) (inr c)

caught : (a r : ℕ) (ns : List ℕ) → 2 * more a r + 1 ≤ length ns → Rising r ns → Caught (turn false a) r ns
caught a r [] few up = absurd (omega arith)
caught a r (n ∷ []) few up =
    ⊎_elim
    (λ (l : r < 15360). absurd (omega (arith, more_some a r l)))
    (λ (g : 15360 ≤ r). at_newest a r n [] (omega (arith, up.0)) (inl (learned_newest r n up.0 (omega (arith, up.1)))))
    (cases_lt r 15360)
caught a r (n ∷ m ∷ ns) few up =
    ⊎_elim
    (λ (low : n < 1024). near (turn false a) r n (m ∷ ns) low up.0)
    (λ (high : 1024 ≤ n). at_newest a r n (m ∷ ns) high
    (⊎_elim
    (λ (far : r + 1024 < n). inr (rw (learned_none r n far)
    (at_multiple a r m ns (omega (arith, up.2.0))
    (caught (next_multiple a m) (learned r (1024 * next_multiple a m)) ns
    (omega (arith, more_less a r m (omega (arith, up.2.0)) up.2.1))
    (rising_from _ m ns (learned_most a r m (omega (arith, up.2.0)) (omega (arith, up.0, up.2.0))) up.2.2)))))
    (λ (close : n ≤ r + 1024). inl (learned_newest r n up.0 close))
    (cases_lt (r + 1024) n)))
    (cases_lt n 1024)

again : (b : Bool) (a r : ℕ) (ns : List ℕ) → 62 ≤ length ns → Rising r ns → Caught (turn b a) r ns
again false a r ns few up = caught a r ns (omega (arith, more_most a r)) up
again true a r [] few up = absurd (omega arith)
again true a r (n ∷ ns) few up =
    ⊎_elim
    (λ (low : n < 1024). near (turn true a) r n ns low up.0)
    (λ (high : 1024 ≤ n). at_multiple a r n ns high
    (caught (next_multiple a n) (learned r (1024 * next_multiple a n)) ns
    (omega (arith, more_most (next_multiple a n) (learned r (1024 * next_multiple a n))))
    (rising_from _ n ns (learned_most a r n high up.0) up.2)))
    (cases_lt n 1024)

pub catches_up : CatchesUp
catches_up (Newest a) = again false a
catches_up (Multiple a) = again true a
