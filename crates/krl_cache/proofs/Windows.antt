-- When a number lies in a window, from its first number up to its end.
use Rattle.krl_cache.proofs.Names.{◌≡◌, ℕ, ◌≤◌, ◌<◌, true, false, arith, nat_tests, lies_in}

pub in_window : (lo hi q : ℕ) → lo ≤ q → q < hi → lies_in lo hi q ≡ true
in_window lo hi q a b = grind (arith, nat_tests)

pub past_window : (lo hi q : ℕ) → hi ≤ q → lies_in lo hi q ≡ false
past_window lo hi q a = grind (arith, nat_tests)

pub before_window : (lo hi q : ℕ) → q < lo → lies_in lo hi q ≡ false
before_window lo hi q a = grind (arith, nat_tests)

pub inside_window : (lo hi q : ℕ) → lies_in lo hi q ≡ true → (lo ≤ q) × (q < hi)
inside_window lo hi q h = (grind (arith, nat_tests), grind (arith, nat_tests))
