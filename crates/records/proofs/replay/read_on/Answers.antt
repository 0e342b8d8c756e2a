-- A read puts its bytes directly behind those that are in the buffer.
use Rattle.std.proofs.Common.{◌≡◌, ℕ, ◌+◌, ◌-◌, ◌≤◌, List, ◌++◌, arith, length, take, drop, slice_range, sym, ap, ◌∙◌, subst, le_refl, take-add, drop_at, length-take-le}
use Rattle.std.proofs.lemmas.List.{take-append-le, drop-append-le}
use Rattle.std.proofs.lemmas.Slice.{between_is, take-put_mid_below}
use Rattle.std.proofs.KnownBytes.{Consumes-trans}
use Rattle.std.specs.Io.KnownBytes.{Consumes}
use borrow.Rule.Slice.PartMut.{put_mid, post_of}
use Rattle.records.proofs.replay.read_on.Goals as goal

front : (at k n : ℕ) (xs ys : List ℕ) → at ≤ length xs → n ≤ length ys → take (at + n) (put_mid at k xs ys) ≡ take at xs ++ take n ys
front at k n xs ys within fits =
    take-add at n (put_mid at k xs ys)
    ∙ ap (λ l. l ++ take n (drop at (put_mid at k xs ys))) (take-put_mid_below at k xs ys at (le_refl at) within)
    ∙ ap (λ l. take at xs ++ take n l) (drop_at (take at xs) (ys ++ post_of at k xs) at (length-take-le at xs within))
    ∙ ap (λ l. take at xs ++ l) (take-append-le n ys (post_of at k xs) fits)

part : (from at k n : ℕ) (xs ys : List ℕ) → from ≤ at → at ≤ length xs → n ≤ length ys
    → slice_range (put_mid at k xs ys) from (at + n) ≡ slice_range xs from at ++ take n ys
part from at k n xs ys low within fits =
    let reaches : from ≤ length (take at xs) = subst (λ m. from ≤ m) (sym (length-take-le at xs within)) low in
    between_is (put_mid at k xs ys) from (at + n)
    ∙ ap (drop from) (front at k n xs ys within fits)
    ∙ drop-append-le from (take at xs) (take n ys) reaches
    ∙ ap (λ l. l ++ take n ys) (sym (between_is xs from at))

pub loop-at-preserved : goal.loop-at-preserved
loop-at-preserved g c =
    let l = c.loop-at in
    let within : l.at ≤ length l.buffer = omega arith in
    let now = part c.args.from l.at (c.args.to - l.at) c.in_ok-more.more l.buffer c.read.new.buf l.invariant.low within c.in_ok-more.ensures.bound.0 in
    record {
      low = omega arith;
      high = omega (arith, c.in_ok-more.ensures.bound.0);
      before = take-put_mid_below _ _ _ _ _ l.invariant.low within ∙ l.invariant.before;
      bytes = subst (Consumes _ _) (sym now) (Consumes-trans _ _ _ _ _ l.invariant.bytes c.in_ok-more.ensures.bytes.0);
    }

pub returns-then-more-eq0-clause-bytes : goal.returns-then-more-eq0-clause-bytes
returns-then-more-eq0-clause-bytes g c =
    let l = c.loop-at in
    let room = c.args.to - l.at in
    let within : l.at ≤ length l.buffer = omega arith in
    let now = part c.args.from l.at room c.in_ok-more.more l.buffer c.read.new.buf l.invariant.low within c.in_ok-more.ensures.bound.0 in
    let none : l.at + c.in_ok-more.more ≡ l.at = omega arith in
    let all = slice_range l.buffer c.args.from l.at ++ take c.in_ok-more.more c.read.new.buf in
    let same = subst (λ (e : ℕ). slice_range (put_mid l.at room l.buffer c.read.new.buf) c.args.from e ≡ all) none now in
    subst (Consumes _ _) (sym same) (Consumes-trans _ _ _ _ _ l.invariant.bytes c.in_ok-more.ensures.bytes.0)
