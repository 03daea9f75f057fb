-- What a stopping shelf tells of the files of its names, and so what calls over it leave on the shelf behind it.
use Rattle.std.proofs.Common.{◌≡◌, ◌≢◌, ◌∙◌, ap, refl, sym, subst, ℕ, zero, suc, ◌<◌, Bool, true, false, inl, List, [], ◌∷◌, map, length, arith}
use Rattle.std.specs.Prelude.{Contains, if◌then◌else◌, slice_index_or}
use Rattle.std.specs.List.{AllByRecursion as ForEach}
use Rattle.std.specs.Str.{bytes_eq}
use Rattle.std.proofs.lemmas.Slice.Eq.{bytes_eq-Decides}
use Rattle.fm_base.specs.Names.{Bytes}
use Rattle.fm_shelf.specs.Content.{Content, Unknown}
use Rattle.fm_shelf.specs.Event.{Event}
use Rattle.fm_shelf.specs.Shelf.{ShelfState}
use Rattle.fm_shelf.specs.Sink.{SinkState}
use Rattle.fm_shelf.specs.Outside.{Outside, outside}
use Rattle.commands.specs.declared.command.Kind.TheVariants as kind
use Rattle.commands.specs.declared.command.Which.TheVariants as which
use Rattle.commands.specs.Commands.{files_of}
use Rattle.refusals.specs.declared.status.Status.{Status}
use Rattle.refusals.specs.declared.status.Status.TheVariants as status
use Rattle.fmeda_top.specs.Promises.{Promises}
use Rattle.stopped_runs.specs.declared.names.Told.{Told}
use Rattle.stopped_runs.specs.declared.names.ToldNames.{ToldNames}
use Rattle.stopped_runs.specs.Stopping.{is_told, stopping_state}
use Rattle.stopped_runs.specs.Campaigns.{Campaign, Holds, IsLeft, Reports}
use Rattle.stopped_runs.specs.Runs.{IsCampaign, IsResumed, Tells, WasCalled}
use Rattle.stopped_runs.proofs.Ending.{Ends, inputs_stay, leaves, reports, resume_call, run_call}
use Rattle.stopped_runs.proofs.Resuming.{left_is_true}

-- ---- names

told_true : (names : List Told) (name : Bytes) → Contains (map (λ told. told.name.items) names) name → is_told names name ≡ true
told_true [] name (k, lt, at) = absurd (omega arith)
told_true (told ∷ rest) name (zero, lt, at) =
    ap (λ b. if b then true else is_told rest name) ((bytes_eq-Decides told.name.items name).1 at)
told_true (told ∷ rest) name (suc k, lt, at) =
    ap (λ b. if bytes_eq told.name.items name then true else b) (told_true rest name (k, omega arith, at)) ∙ either (bytes_eq told.name.items name)
  where
    either : (b : Bool) → (if b then true else true) ≡ true
    either true = refl
    either false = refl

pub tells : (inner : ShelfState) (told : ToldNames) (events : List Event) (names : List Bytes) → map (λ it. it.name.items) told.names.items ≡ names
    → Tells names (stopping_state inner told events) inner
tells inner told events names are name has =
    ap (λ b. if b then inner.content name else Unknown) (told_true told.names.items name (subst (λ them. Contains them name) (sym are) has))

-- ---- a campaign's files

module _ (c : Campaign) (held : Content) (names : List Bytes) (stopping inner : ShelfState)
    (told : ForEach (λ file. Contains names (c.files file)) (files_of kind.Begun)) (own : Tells names stopping inner) where
  holds_told : Holds c held inner → Holds c held stopping
  holds_told holds = record {
    inputs = (
      own (c.files which.Netlist) told.0 ∙ holds.inputs.0,
      (
        own (c.files which.Workload) told.1.0 ∙ holds.inputs.1.0,
        (own (c.files which.Rates) told.1.1.0 ∙ holds.inputs.1.1.0, (own (c.files which.Points) told.1.1.1.0 ∙ holds.inputs.1.1.1.0, tt)),
      ),
    );
    here = own (c.files which.Result) told.1.1.1.1.0 ∙ holds.here;
  }

  holds_behind : Holds c held stopping → Holds c held inner
  holds_behind holds = record {
    inputs = (
      sym (own (c.files which.Netlist) told.0) ∙ holds.inputs.0,
      (
        sym (own (c.files which.Workload) told.1.0) ∙ holds.inputs.1.0,
        (sym (own (c.files which.Rates) told.1.1.0) ∙ holds.inputs.1.1.0, (sym (own (c.files which.Points) told.1.1.1.0) ∙ holds.inputs.1.1.1.0, tt)),
      ),
    );
    here = sym (own (c.files which.Result) told.1.1.1.1.0) ∙ holds.here;
  }

-- ---- calls

-- what the calls so far have left: RESULT as it was, or a byte prefix of true rows, and the inputs
pub record HasStopped (c : Campaign) (start : Content) (shelf : ShelfState) : Type 0 where
  pub left : IsLeft c start (shelf.content (c.files which.Result))
  pub holds : Holds c (shelf.content (c.files which.Result)) shelf

module _ (c : Campaign) (start : Content) (run resume names : List Bytes) (first : ShelfState) (is : IsCampaign c start run resume names first) where
  -- a call left this, by what it met
  called : (words : List Bytes) (held : Content) (before after : ShelfState) (was : WasCalled words names before after) → IsLeft c start held
      → (met : Holds c held was.met.shelf) → Ends c held was.met was.left met was.ended → HasStopped c start after
  called words held before after was left met ends =
      let same : was.left.shelf.content (c.files which.Result) ≡ after.content (c.files which.Result) = was.keeps (c.files which.Result) is.told.1.1.1.1.0 in
      let stay = inputs_stay c held was.met was.left met was.ended is.apart ends in
      record {
        left = subst (IsLeft c start) same (leaves c held was.met was.left met start was.ended left ends);
        holds =
            subst (λ content. Holds c content after) same
            (holds_behind c (was.left.shelf.content (c.files which.Result)) names was.left.shelf after is.told was.keeps stay);
      }

  pub run_stopped : (after : ShelfState) → WasCalled run names first after → HasStopped c start after
  run_stopped after was =
      let met = holds_told c start names was.met.shelf first is.told was.tells is.holds in
      called run start first after was (inl refl) met (run_call c start was.met was.left met run is.run_is.0 was.ended is.run_is.1 was.promised)

  module _ (before : ShelfState) (known : before.content (c.files which.Result) ≢ Unknown) (stopped : HasStopped c start before) where
    abbrev held : Content
    held = before.content (c.files which.Result)

    pub resume_stopped : (after : ShelfState) → WasCalled resume names before after → HasStopped c start after
    resume_stopped after was =
        let met = holds_told c held names was.met.shelf before is.told was.tells stopped.holds in
        called resume held before after was stopped.left met
        (resume_call c held was.met was.left met resume is.resume_is.0 was.ended known (left_is_true c start held is.truth stopped.left) is.resume_is.1 was.promised)

    pub resumed_last : (ended : Status) (out : SinkState) (after : Outside) → Promises resume ended (outside before out) after
        → IsResumed c start ended (outside first out) after
    resumed_last ended out after promised =
        let ends = resume_call c held (outside before out) after stopped.holds resume is.resume_is.0 ended known (left_is_true c start held is.truth stopped.left) is.resume_is.1 promised in
        record {
          left = leaves c held (outside before out) after stopped.holds start ended stopped.left ends;
          reports = λ done. (
              let own = reports c held (outside before out) after stopped.holds ended done ends in
              record { p = own.p; plan = own.plan; wrote = own.wrote; entries = own.entries; whole = own.whole; result = own.result });
        }
