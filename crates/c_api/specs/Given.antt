-- What a call gives back to C: its status, and its value through references.
use Rattle.std.specs.Prelude.{ℕ, ◌≡◌, List, length, take}
use Rattle.lists.specs.Answer as answer
use Rattle.lists.specs.Lists.{put}

-- The answer a as C sees it: r is the refusal's number, 0 for none. The lent value is old before the call and new after it: what the call gives, or old
-- where it is refused.
pub record Given {A : Type 0} (a : answer.Answer A) (r : ℕ) (old new : A) : Type 0 where
  pub status : r ≡ answer.status a
  pub value : new ≡ answer.left a old

-- what is said of the lent value: where the call is refused it is as before, else `says` holds of what the call gives and of it
abbrev pub Said : {A B : Type 0} → (A → B → Type 0) → answer.Answer A → B → B → Type 0
Said says (answer.refused n) old new = new ≡ old
Said says (answer.given a) old new = says a new

-- The same of an answer that is given as places in what was lent: `says` relates the answer to its places.
pub record GivenAs {A B : Type 0} (says : A → B → Type 0) (a : answer.Answer A) (r : ℕ) (old new : B) : Type 0 where
  pub status : r ≡ answer.status a
  pub value : Said says a old new

-- Bytes copied to a lent list: r is how many there are; the list begins with as many of them as it has room for, and is as before past them.
pub record Copied (bytes : List ℕ) (r : ℕ) (old new : List ℕ) : Type 0 where
  pub count : r ≡ length bytes
  pub copy : new ≡ put old 0 (take (length old) bytes)
