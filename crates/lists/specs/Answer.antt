-- What a call answers: the number of its refusal, or what it gives.
use Rattle.std.specs.Prelude.{ℕ, zero, suc, Bool, true, false}

pub data Answer (A : Type 0) : Type 0 where
  refused : ℕ → Answer A
  given : A → Answer A

module _ {A : Type 0} where
  -- One row of a call's refusals: where the test fails, the call is refused with the number n; else the rest decides.
  abbrev pub unless : Bool → ℕ → Answer A → Answer A
  unless true n rest = rest
  unless false n rest = refused n

  -- what is decided next, from what was given
  abbrev pub and_then : {B : Type 0} → Answer A → (A → Answer B) → Answer B
  and_then (refused n) next = refused n
  and_then (given a) next = next a

  -- f of what was given
  abbrev pub map_answer : {B : Type 0} → (A → B) → Answer A → Answer B
  map_answer f (refused n) = refused n
  map_answer f (given a) = given (f a)

  -- a lent value after the call: as it was where the call is refused, else the new one
  abbrev pub left : Answer A → A → A
  left (refused n) old = old
  left (given new) old = new

  -- the refusal number, and 0 where there is none
  abbrev pub status : Answer A → ℕ
  status (refused n) = n
  status (given a) = 0

-- a state that is carried over the places below n, in order; the first place that is refused decides
unfoldable pub fold_answer : {S : Type 0} → ℕ → (S → ℕ → Answer S) → S → Answer S
fold_answer zero step start = given start
fold_answer (suc n) step start = and_then (fold_answer n step start) (λ s. step s n)
