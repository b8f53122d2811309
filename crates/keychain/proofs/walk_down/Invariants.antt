use Rattle.std.proofs.Common.{◌≡◌, ◌≤◌}
use Rattle.keychain.specs.Chain.{key_down, Collected}
use Rattle.keychain.proofs.walk_down.Given as goal

abbrev pub invariant-walk : goal.invariant-walk
invariant-walk l = record {
  within : l.before-iterator.start ≤ l.n;
  here : l.k.bytes ≡ key_down l.before-iterator.start l.initial.k.bytes;
  noted : Collected l.before-iterator.start l.initial.k.bytes l.wanted l.keys;
}
