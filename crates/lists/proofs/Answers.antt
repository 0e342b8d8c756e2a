-- Answers: what a given answer tells of the tests before it, rows and maps taken past each other, and refusals numbered from 1 on. Assumes nothing.
use mathlib.Core.Path.{◌≡◌, refl, sym, ap}
use mathlib.Core.Logic.{◌⊎◌, inl, inr}
use mathlib.Core.Bool.{Bool, true, false, cond}
use Prim.Native.Nat.{ℕ, ◌≤◌}
use native.Mathlib.Omega.{arith}
use Rattle.lists.specs.Answer.{Answer, refused, given, unless, and_then, map_answer, status}

-- a refusal is not a given answer
pub refused_given : {A : Type 0} {X : Type 0} {n : ℕ} {a : A} → refused n ≡ given a → X
refused_given e = let z : ◌≡◌ {A = ℕ} 0 1 = cc in absurd (omega arith)

-- a given answer has passed the row
pub passed : {A : Type 0} (test : Bool) (n : ℕ) (rest : Answer A) {a : A} → unless test n rest ≡ given a → (test ≡ true) × (rest ≡ given a)
passed true n rest e = (refl, e)
passed false n rest e = refused_given e

pub passed_then : {A B : Type 0} (before : Answer A) (next : A → Answer B) {b : B} → and_then before next ≡ given b → (a : A) × (before ≡ given a) × (next a ≡ given b)
passed_then (refused n) next e = refused_given e
passed_then (given a) next e = (a, refl, e)

-- a row above what is decided next, and a map over it
pub unless_then : {A B : Type 0} (test : Bool) (n : ℕ) (rest : Answer A) (next : A → Answer B) → and_then (unless test n rest) next ≡ unless test n (and_then rest next)
unless_then true n rest next = refl
unless_then false n rest next = refl

pub then_then : {A B C : Type 0} (first : Answer A) (second : A → Answer B) (third : B → Answer C) → and_then (and_then first second) third ≡ and_then first (λ a. and_then (second a) third)
then_then (refused n) second third = refl
then_then (given a) second third = refl

pub map_then : {A B C : Type 0} (f : B → C) (first : Answer A) (next : A → Answer B) → map_answer f (and_then first next) ≡ and_then first (λ a. map_answer f (next a))
map_then f (refused n) next = refl
map_then f (given a) next = refl

abbrev value : {A : Type 0} → A → Answer A → A
value other (refused n) = other
value other (given a) = a

-- equal answers give equal values
pub given_same : {A : Type 0} {a b : A} → given a ≡ given b → a ≡ b
given_same {A} {a} e = ap (value a) e

-- ---- answers whose refusals are numbered from 1 on

abbrev pub Numbered : {A : Type 0} → Answer A → Type 0
Numbered a = (k : ℕ) → a ≡ refused k → 1 ≤ k

module _ {A : Type 0} where
  pub given_numbered : (x : A) → Numbered (given x)
  given_numbered x k e = refused_given (sym e)

  pub unless_numbered : (b : Bool) (n : ℕ) {rest : Answer A} → 1 ≤ n → Numbered rest → Numbered (unless b n rest)
  unless_numbered true n h r k e = r k e
  unless_numbered false n h r k e = omega (arith, ap status e)

  pub cond_numbered : (b : Bool) {x y : Answer A} → Numbered x → Numbered y → Numbered (cond b x y)
  cond_numbered true p q = p
  cond_numbered false p q = q

  pub then_numbered : {B : Type 0} (a : Answer A) (f : A → Answer B) → Numbered a → ((x : A) → Numbered (f x)) → Numbered (and_then a f)
  then_numbered (refused n) f p q k e = omega (arith, p n refl, ap status e)
  then_numbered (given x) f p q k e = q x k e

  pub map_numbered : {B : Type 0} (f : A → B) (a : Answer A) → Numbered a → Numbered (map_answer f a)
  map_numbered f (refused n) p k e = omega (arith, p n refl, ap status e)
  map_numbered f (given x) p k e = refused_given (sym e)

-- a refusal is the row's, or comes after it
pub unless_refused : {A : Type 0} (test : Bool) (n : ℕ) (rest : Answer A) {k : ℕ} → unless test n rest ≡ refused k → (k ≡ n) ⊎ (rest ≡ refused k)
unless_refused true n rest e = inr e
unless_refused false n rest e = inl (sym (ap status e))
