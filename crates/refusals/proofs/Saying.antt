-- The words of a netlist's refusal.
use Rattle.std.proofs.Common.{◌≡◌, ◌∙◌, ap, sym, subst, refl, List, [], ◌∷◌, ◌++◌, map, append-nil}
use Rattle.std.specs.List.{flat_map}
use Rattle.fm_base.specs.Text.{spaced}
use Rattle.circuit.specs.declared.parts.NetId.{NetId}
use Rattle.std.specs.Prelude.{slice_index_or, codes}
use Rattle.fm_shelf.specs.Sink.{SinkState}
use Rattle.bench_reader.specs.declared.BenchKind.{BenchKind}
use Rattle.bench_reader.specs.declared.BenchKind.TheVariants as bench
use Rattle.blif_text.specs.declared.NetlistKind.{NetlistKind}
use Rattle.blif_text.specs.declared.NetlistKind.TheVariants as netlist
use Rattle.refusals.specs.Said.{IsSaid, shown_bench_net, shown_net, spaced_net}
use Rattle.refusals.specs.RefusalLines.{refused, row_why}
use Rattle.result_file.specs.declared.RowFault.{RowFault}
use Rattle.fm_base.specs.Names.{Bytes}

-- a word, and where there is one the net behind it, are the text of the kind
pub named_said : (before after : SinkState) (file number kind word behind net : Bytes) → kind ≡ word ++ behind → behind ≡ 32 ∷ net
    → IsSaid before after (refused (file ∷ number ∷ word ∷ net ∷ [])) → IsSaid before after (refused (file ∷ number ∷ kind ∷ []))
named_said before after file number kind word behind net e n said =
    subst (λ text. IsSaid before after (refused (file ∷ number ∷ text ∷ []))) (sym (e ∙ ap (λ rest. word ++ rest) n)) said

pub bare_said : (before after : SinkState) (file number kind word behind : Bytes) → kind ≡ word ++ behind → behind ≡ []
    → IsSaid before after (refused (file ∷ number ∷ word ∷ [])) → IsSaid before after (refused (file ∷ number ∷ kind ∷ []))
bare_said before after file number kind word behind e n said =
    subst (λ text. IsSaid before after (refused (file ∷ number ∷ text ∷ []))) (sym (e ∙ ap (λ rest. word ++ rest) n ∙ append-nil word)) said

-- only a net without a driver is shown
pub netlist_bare : (kind : NetlistKind) → ((net : Bytes) → kind ≡ netlist.Undriven net → ⊥) → shown_net kind ≡ []
netlist_bare (netlist.Undriven net) not = absurd (not net refl)
netlist_bare _ not = refl

pub bench_bare : (kind : BenchKind) → ((net : Bytes) → kind ≡ bench.Undriven net → ⊥) → shown_bench_net kind ≡ []
bench_bare (bench.Undriven net) not = absurd (not net refl)
bench_bare _ not = refl

-- words with a space before each but the first
spaced_cons : (word : Bytes) (words : List Bytes) → spaced (word ∷ words) ≡ word ++ flat_map (λ w. 32 ∷ w) words
spaced_cons word [] = sym (append-nil word)
spaced_cons word (next ∷ words) = ap (λ rest. word ++ (32 ∷ rest)) (spaced_cons next words)

flat_names : (names : List Bytes) (walk : List NetId) → flat_map (λ w. 32 ∷ w) (map (λ (net : NetId). slice_index_or names net.0 []) walk) ≡ flat_map (spaced_net names) walk
flat_names names [] = refl
flat_names names (net ∷ walk) = ap (λ rest. spaced_net names net ++ rest) (flat_names names walk)

-- the line of a loop, piece by piece
pub loop_line : (names : List Bytes) (walk : List NetId)
    → refused (codes "loop" ∷ map (λ (net : NetId). slice_index_or names net.0 []) walk) ≡ codes "refused: loop" ++ (flat_map (spaced_net names) walk ++ 10 ∷ [])
loop_line names walk =
    let words = map (λ (net : NetId). slice_index_or names net.0 []) walk in
    ap (λ t. codes "refused: " ++ (t ++ 10 ∷ [])) (spaced_cons (codes "loop") words ∙ ap (λ t. codes "loop" ++ t) (flat_names names walk))

-- the line of a row's fault, where it is this one
pub row_said : (before after : SinkState) (file number : Bytes) (why is : RowFault) → why ≡ is
    → IsSaid before after (refused (file ∷ number ∷ row_why is)) → IsSaid before after (refused (file ∷ number ∷ row_why why))
row_said before after file number why is e said = subst (λ w. IsSaid before after (refused (file ∷ number ∷ row_why w))) (sym e) said
