-- Bytes copied to a lent list. Assumes nothing.
use Rattle.std.proofs.Common.{◌≡◌, ℕ, ◌+◌, min, List, ◌++◌, length, take, drop, sym, ap, ◌∙◌, arith}
use Rattle.std.proofs.lemmas.List.{take_min, length-take}
use Rattle.lists.specs.Lists.{put}

-- a copy of as many bytes as both lists hold
pub cut_copied : (bytes copy part : List ℕ) (n : ℕ) → n ≡ min (length copy) (length bytes) → part ≡ take n bytes → part ++ drop n copy ≡ put copy 0 (take (length copy) bytes)
unfolding put
cut_copied bytes copy part n is e =
    let whole : part ≡ take (length copy) bytes = e ∙ ap (λ (k : ℕ). take k bytes) is ∙ take_min (length copy) bytes in
    let long : n ≡ 0 + length (take (length copy) bytes) = omega (arith, is, length-take (length copy) bytes) in
    rw whole (ap (λ (k : ℕ). take (length copy) bytes ++ drop k copy) long)
