-- Sums of weights that grow with each post, and the same sums from scratch.
use Rattle.std.specs.Prelude.{ℕ, List, [], ◌∷◌}
use lib.ListN.{get_or}
use Rattle.metric_sums.specs.declared.Sums.{Sums}
use Rattle.metric_sums.specs.Totals.{no_sums, plus, sums_by}
use Rattle.campaign_core.specs.declared.event.Event.{Event}
use Rattle.campaign_core.specs.declared.event.Event.TheVariants.{Draw, Post, Look, Fail}

-- the sums of one number
abbrev pub own : List Sums → ℕ → Sums
own sums n = get_or sums n no_sums

-- from scratch, over these numbers
abbrev pub from_scratch : List Sums → List ℕ → Sums
from_scratch sums history = sums_by (own sums) history

-- the sums that grow at each post by those of its number
abbrev pub grown_sums : List Sums → Sums → List Event → Sums
grown_sums sums now [] = now
grown_sums sums now (Draw w ∷ es) = grown_sums sums now es
grown_sums sums now (Post w n ∷ es) = grown_sums sums (plus now (own sums n)) es
grown_sums sums now (Look w ∷ es) = grown_sums sums now es
grown_sums sums now (Fail w ∷ es) = grown_sums sums now es
