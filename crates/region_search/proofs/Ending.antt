-- The end of a search.
use Rattle.std.proofs.Common.{◌≡◌, ℕ, false}
use Rattle.fm_base.proofs.Tests.{clash}
use Rattle.circuit.specs.Order.{IsOrder}
use Rattle.coverage_claim.specs.Rules.{Sets}
use Rattle.coverage_claim.specs.Stretch.{Stretch}
use Rattle.fanout.specs.Readers.{Ordered}
use Rattle.place_set.specs.Places.{has as waits}
use Rattle.region_search.proofs.Settling.{ends_settled}
use Rattle.region_search.specs.Going.{GoesOn, sets_of}
use Rattle.region_search.specs.Settled.{NothingWaits}
use Rattle.region_search.specs.declared.search.Search.{Search}

-- a search that has come so far goes on from here
pub again : (o : Ordered) (s : Stretch) (bounds q : Sets) (search : Search) → GoesOn o s bounds q search → GoesOn o s bounds (sets_of search.sets) search
again o s bounds q search goes = record {
  frames = goes.frames;
  going = record {
    circuit = goes.going.circuit;
    search = goes.going.search;
    by_rules = record {
      among = λ i n a b le e. e;
      rightly = λ i n a b le had gone. absurd (clash (sets_of search.sets i n a b) had gone);
    };
    noted = goes.going.noted;
  };
}

-- and where no place waits nothing does
pub ended : (o : Ordered) (s : Stretch) (bounds q : Sets) (search : Search) → IsOrder o.circuit o.order → GoesOn o s bounds q search → ((p : ℕ) → waits search.waiting p ≡ false)
    → NothingWaits s (sets_of search.sets)
ended o s bounds q search is goes none = ends_settled o s bounds (sets_of search.sets) search.waiting goes.going.circuit is goes.going.search none
