-- Rows by other rates are those of a campaign with these.
use Rattle.std.proofs.Common.{◌≡◌, ◌∙◌, ap, sym, subst, List, length, arith}
use Rattle.std.proofs.lemmas.List.{take_all}
use Rattle.fm_base.specs.Names.{Bytes}
use Rattle.fm_shelf.specs.Content.{Held}
use Rattle.campaign_plan.specs.Batches.{Entry}
use Rattle.result_file.specs.ResultText.{result_text}
use Rattle.result_file.specs.KeptRows.{kept_entries}
use Rattle.result_reweigh.specs.Laws.{ReweighLaws, ReweighsAreLawful}
use Rattle.campaign_run.specs.Left.{IsPrefixOf}
use Rattle.command_reads.specs.Files.{exchanged}
use Rattle.command_reads.specs.FirstRefusal.{own_header}
use Rattle.command_reads.proofs.Renewing.{AreRenewed, are_renewed, differ, kept_distinct_before}
use Rattle.fmeda_top.specs.Laws.{ReweighedAreOfTheRun}
use Rattle.fmeda_top.specs.Written.{rows_file}

-- OF OTHER RATES
pub of_the_run : ReweighsAreLawful → ReweighedAreOfTheRun
of_the_run laws netlist set reads p rows is =
    let it : AreRenewed netlist set reads p rows = are_renewed netlist set reads p rows is in
    let rates = differ netlist set reads it.before p it.planned it.run in
    let law : ReweighLaws it.before p = laws it.before p rates in
    let own : Bytes = own_header (exchanged reads) p in
    let entries : List Entry = kept_entries it.k in
    let text : Bytes = result_text own p entries in
    let same : text ≡ rows_file own rows = ap (rows_file own) (sym it.rows_are) in
    record {
      before = it.before;
      k = it.k;
      planned = it.planned;
      kept = it.kept;
      run = it.run;
      rates = rates;
      stopped = λ truly. record {
        entries = entries;
        part = record {
          distinct = law.distinct entries (kept_distinct_before netlist set reads p rows it);
          have = law.true entries truly;
        };
        prefix = subst (λ bytes. IsPrefixOf (Held bytes) text) same (length text, sym (take_all (length text) text (omega arith)));
      };
      whole = λ whole. it.rows_are ∙ law.run it.k.rows whole;
    }
