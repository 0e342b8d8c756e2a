-- What a stacking gives back: the number of regions through a reference, and what it leaves in the lent lists.
use Rattle.std.specs.Prelude.{ℕ, ◌≡◌, List, length}
use Rattle.lists.specs.Answer.{Answer, map_answer, left}
use Rattle.lists.specs.Lists.{put}
use Rattle.geometry.specs.Regions.{Regions, put_regions}
use Rattle.geometry.specs.Stack.{Stacking}
use Rattle.c_api.specs.Given.{Given}

-- The regions of the stacking a are written to the start of rows, its outcomes to the start of outcomes; n and n' are the number of regions.
pub record GivenRows (a : Answer Stacking) (r n n' : ℕ) (rows rows' : Regions) (outcomes outcomes' : List ℕ) : Type 0 where
  pub count : Given (map_answer (λ (s : Stacking). length s.regions) a) r n n'
  pub regions : rows' ≡ left (map_answer (λ (s : Stacking). put_regions rows 0 s.regions) a) rows
  pub told : outcomes' ≡ left (map_answer (λ (s : Stacking). put outcomes 0 s.outcomes) a) outcomes
