-- What is given back depends on the answer alone. Assumes nothing.
use Prim.Native.Nat.{ℕ}
use mathlib.Core.Path.{◌≡◌, ap, ◌∙◌}
use Rattle.lists.specs.Answer as answer
use Rattle.c_api.specs.Given.{Given}

pub same : {A : Type 0} {a b : answer.Answer A} {r : ℕ} {old new : A} → a ≡ b → Given a r old new → Given b r old new
same {old = old} e g = record { status = g.status ∙ ap answer.status e; value = g.value ∙ ap (λ x. answer.left x old) e }
