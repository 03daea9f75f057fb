use Rattle.std.proofs.Common.{◌∙◌}
use Rattle.region_search.proofs.search.Search.split_all.Goals as goal

pub loop-net-preserved : goal.loop-net-preserved
loop-net-preserved c = record {
  fits = c.split_at.ensures.fits;
  frames = c.split_at.ensures.frames ∙ c.loop-net.invariant.frames;
  case = c.split_at.ensures.case;
  case_frames = c.split_at.ensures.case_frames ∙ c.loop-net.invariant.case_frames;
  goes_on = λ s bounds sites goes. c.split_at.ensures.goes_on s bounds sites (c.loop-net.invariant.goes_on s bounds sites goes);
}
