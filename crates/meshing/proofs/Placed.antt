-- Puts: a write to a part of a list, as std gives it, and two writes, the second right after the first. Assumes nothing.
use Rattle.std.proofs.Common.{◌≡◌, ◌∙◌, ap, sym, ℕ, ◌+◌, ◌≤◌, List, ◌++◌, length, take, drop, append_assoc}
use Rattle.std.proofs.Math.Seq.{drop-drop}
use Rattle.lists.specs.Lists.{put}
use Rattle.lists.proofs.Fills.{put_more}
use borrow.Rule.Slice.PartMut.{put_mid}

pub mid_put : {A : Type 0} (at k : ℕ) (l new : List A) → k ≡ length new → put_mid at k l new ≡ put l at new
unfolding put
mid_put at k l new e = rw (e, drop-drop) (sym (append_assoc (take at l) new (drop (at + length new) l)))

-- a run, and another right after it
pub put_two : {A : Type 0} (l a b : List A) (at p : ℕ) {once twice : List A} → once ≡ put l at a → twice ≡ put once p b → p ≡ at + length a → p + length b ≤ length l → twice ≡ put l at (a ++ b)
put_two l a b at p e f h room = f ∙ ap (λ k. put k p b) e ∙ put_more l at a b p h room
