use Rattle.std.proofs.Common.{◌≡◌, ◌+◌, ◌++◌, drop, vec_items}
use Rattle.timing.specs.Time.{parameters_of}
use Rattle.scenario.specs.Scenes.{arrivals}
use Rattle.scenario.proofs.receivers.hear.Given as goal

abbrev pub invariant-loop-i : goal.invariant-loop-i
invariant-loop-i l =
    let p = parameters_of l.parameters in
    vec_items l.heard ++ arrivals p l.line l.interval (l.i + 1) (drop l.i l.clocks) ≡ vec_items l.initial.heard ++ arrivals p l.line l.interval 1 l.clocks
