-- Planes hang on no rate.
use Rattle.std.proofs.Common.{◌≡◌, ◌∙◌, ap, sym, subst, refl, ℕ, List, [], ◌∷◌, map}
use Rattle.std.specs.Prelude.{◌==◌, if◌then◌else◌}
use Rattle.campaign_plan.specs.declared.Outcome.{Outcome}
use Rattle.campaign_plan.specs.Analysis.{Analysis}
use Rattle.campaign_plan.specs.Batches.{Entry, in_order, true_planes}
use Rattle.result_file.specs.declared.Row.{Row}
use Rattle.result_file.specs.ResultText.{result_rows}
use Rattle.result_file.specs.KeptRows.{entry_of}
use Rattle.result_file.specs.RowPlanes.{planes_in}
use Rattle.result_file.proofs.WrittenBack.{entries_are}
use Rattle.result_reweigh.specs.Reweighed.{reweighed}
use Rattle.result_reweigh.specs.Laws.{ReweighLaws, ReweighsAreLawful}

-- ---- planes stand in entries

abbrev planes_by : List Entry → ℕ → Outcome
planes_by [] batch = record { danger = 0; noticed = 0 }
planes_by (entry ∷ entries) batch = if entry.0 == batch then entry.1 else planes_by entries batch

planes_are : (rows : List Row) (batch : ℕ) → planes_in rows batch ≡ planes_by (map entry_of rows) batch
planes_are [] batch = refl
planes_are (row ∷ rows) batch = ap (λ planes. if row.batch == batch then (entry_of row).1 else planes) (planes_are rows batch)

-- ---- the same plan with other rates

abbrev with_rates_of : (p q : Analysis) → Analysis
with_rates_of p q = record p { rates = q.rates }

kept : (q : Analysis) (rows : List Row) → map entry_of (reweighed q rows) ≡ map entry_of rows
kept q rows = entries_are q (map entry_of rows)

laws_with : (p other : Analysis) → ReweighLaws p (with_rates_of p other)
laws_with p other =
    let q : Analysis = with_rates_of p other in
    record {
      entries = kept q;
      planes = λ rows batch. planes_are (reweighed q rows) batch ∙ ap (λ entries. planes_by entries batch) (kept q rows) ∙ sym (planes_are rows batch);
      distinct = λ entries h. record { within = h.within; once = h.once };
      each = λ entries h. h;
      true = λ entries h. h;
      run = λ rows is. ap (result_rows q) (ap (map entry_of) is ∙ entries_are p (in_order p (true_planes p)));
      back = λ rows is. ap (result_rows p) (kept q rows) ∙ sym is;
    }

pub lawful : ReweighsAreLawful
lawful p q differ =
    let same : with_rates_of p q ≡ q = λ j. record {
      circuit = differ.circuit j;
      runs = differ.runs j;
      rates = q.rates;
      points = differ.points j;
      settings = differ.settings j;
    } in
    subst (ReweighLaws p) same (laws_with p q)
