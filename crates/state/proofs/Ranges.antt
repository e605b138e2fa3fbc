-- A client and a server that have channels between them, and what stands at their places.
-- Assumes nothing.
use Rattle.register.proofs.Vocabulary.{is_up_to, most_servers, most_clients}
use Rattle.basics.proofs.Prelude.{◌≡◌, true, false, cond, ◌&&◌, ℕ, ◌≤◌}
use Rattle.basics.proofs.Cases.{both}
use Rattle.basics.proofs.UpTo.{in_range_lem, pick}

-- client d and server k have channels
pub record Inside (d k : ℕ) : Type 0 where
  pub low : 1 ≤ d
  pub high : d ≤ most_clients
  pub first : 1 ≤ k
  pub last : k ≤ most_servers

module _ {A : Type 0} (P : A → Type 0) where
  pub at_link : (d k : ℕ) (x y : A) → (Inside d k → P x)
      → (is_up_to most_clients d && is_up_to most_servers k ≡ false → P y)
      → P (cond (is_up_to most_clients d && is_up_to most_servers k) x y)
  at_link d k x y f g = pick P (is_up_to most_clients d && is_up_to most_servers k) x y (λ e. f (inside e)) g
    where
      inside : is_up_to most_clients d && is_up_to most_servers k ≡ true → Inside d k
      inside e =
          let p = both (is_up_to most_clients d) (is_up_to most_servers k) e in
          let client = in_range_lem most_clients d p.0 in
          let server = in_range_lem most_servers k p.1 in
          record { low = client.0; high = client.1; first = server.0; last = server.1 }
