-- A list read w entries at a time: what stands in chunk i. Assumes nothing.
use Rattle.std.proofs.Common.{ℕ, zero, suc, ◌+◌, ◌*◌, ◌<◌, ◌≡◌, List, [], ap, ◌∙◌, drop, get_or, arith}
use Rattle.std.proofs.Math.Nat.{zero-mul, suc-mul}
use Rattle.std.proofs.lemmas.List.{get_or-take, get_or-drop}
use Rattle.std.specs.Simd.{first_chunks}

pub chunk_at : (w n : ℕ) (l : List ℕ) (i j : ℕ) → i < n → j < w → get_or (get_or (first_chunks w n l) i []) j 0 ≡ get_or l (i * w + j) 0
chunk_at w zero l i j h k = absurd (omega arith)
chunk_at w (suc n) l zero j h k =
    let e : j ≡ 0 * w + j = omega (arith, zero-mul w) in
    get_or-take w l j 0 k ∙ ap (λ (p : ℕ). get_or l p 0) e
chunk_at w (suc n) l (suc i) j h k =
    let e : w + (i * w + j) ≡ suc i * w + j = omega (arith, suc-mul i w) in
    chunk_at w n (drop w l) i j (omega arith) k ∙ get_or-drop w l (i * w + j) 0 ∙ ap (λ (p : ℕ). get_or l p 0) e
