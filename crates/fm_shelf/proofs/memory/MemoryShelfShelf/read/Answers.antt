use Rattle.std.proofs.Common.{◌≡◌, ◌++◌, drop, length, refl, take, arith}
use Rattle.std.proofs.lemmas.Grind.{common_steps}
use Rattle.fm_shelf.proofs.Changes.{reads_then}
use Rattle.fm_shelf.specs.Content.{Absent}
use Rattle.fm_shelf.specs.declared.memory.Entry.{Entry}
use Rattle.fm_shelf.specs.Entries.{content_in, entry_count, files_of}
use Rattle.fm_shelf.proofs.Pasts.{noted_read}
use Rattle.fm_shelf.proofs.memory.MemoryShelfShelf.read.Goals as goal

pub returns-in-Some-clause-rest : goal.returns-in-Some-clause-rest
returns-in-Some-clause-rest c =
    let entries = c.args.self.now.entries.items in
    let reads = entry_count (λ (entry : Entry). entry.reads) c.args.self.now.other_reads entries in
    let writes = entry_count (λ (entry : Entry). entry.writes) c.args.self.now.other_writes entries in
    noted_read (content_in (files_of entries) Absent) reads reads writes c.args.self.now.past.events c.then-self.result.events c.args.name.now _ c.then-self.ensures
    (record { grows = λ other. omega arith; others = λ other ne there. refl })

pub returns-clause-rest : goal.returns-clause-rest
returns-clause-rest c =
    let old = c.args.self.now.entries.items in
    let new = c.note_read.new.entries in
    let items : take c.args.self.now.entries.len (new ++ drop (length new) old) ≡ new = grind (arith, common_steps) in
    let same : c.deref_mut.result.now ≡ old = grind (arith, common_steps) in
    rw items (reads_then c.args.self.now.other_reads c.args.self.now.other_writes c.note_read.new.others old c.deref_mut.result.now new c.args.self.now.past.events
    c.then-self-2.result.events c.args.name.now c.then-self-2.ensures same c.note_read.ensures.files c.note_read.ensures.counts c.note_read.ensures.writes)
