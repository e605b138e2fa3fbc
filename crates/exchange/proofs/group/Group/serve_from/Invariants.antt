-- The servers that are not asked stay as they were, as many serve as before, and each client stays the one that
-- it is.
use Rattle.std.proofs.Common.{◌≡◌, ℕ, ◌-◌, ◌<◌, ◌≤◌, slice_get}
use Rattle.exchange.specs.Clients.{SameNumbers}
use Rattle.exchange.proofs.group.Group.serve_from.Given as goal

abbrev pub invariant-loop-k : goal.invariant-loop-k
invariant-loop-k g l = record {
  live : l.self.live ≡ l.fn.self.live;
  before : (i : ℕ) → i < l.first - 1 → slice_get l.self.servers i ≡ slice_get l.fn.self.servers i;
  behind : (i : ℕ) → l.last ≤ i → slice_get l.self.servers i ≡ slice_get l.fn.self.servers i;
  numbers : SameNumbers l.fn.self.clients l.self.clients;
}
