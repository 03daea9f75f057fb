-- How many nets a search is about, and how many places wait in it.
use Rattle.std.proofs.Common.{ℕ, ◌*◌, ◌^◌, ◌<◌, ◌≤◌, length, subst, arith}
use Rattle.std.proofs.lemmas.Nat.{mul-le}
use Rattle.circuit.proofs.FewTables.{few_tables}
use Rattle.circuit.specs.Circuit.{Circuit}
use Rattle.claim_search.specs.Question.{IsSearched}
use Rattle.claim_search.specs.declared.question.Posed.{Posed}
use Rattle.claim_search.specs.declared.question.Searched.{Searched}
use Rattle.region_search.specs.Search.{places_of}
use Rattle.always_answers.specs.PartSteps.{AreParts}
use Rattle.always_answers.specs.declared.parts.Parts.{Parts}

-- the nets of a netlist are few
pub few_nets : (searched : Searched) → IsSearched searched → length searched.netlist.now.drivers ≤ 2 ^ 18
few_nets searched is = subst (λ (c : Circuit). length c.drivers ≤ 2 ^ 18) is.netlist is.sound.few

pub few_parts : (searched : Searched) (p : Posed) (parts : Parts) → IsSearched searched → AreParts searched.netlist.now p parts → length parts.of_nets.now ≤ 2 ^ 18
few_parts searched p parts is are = (let few = few_nets searched is in omega (arith, few, are.count))

-- ALL PLACES of a window fit
pub few_waiting : (searched : Searched) → IsSearched searched → (frames : ℕ) → frames ≤ 2 ^ 11 → frames * places_of searched.watchers.now < 2 ^ 32
few_waiting searched is frames less =
    let o = searched.watchers.now in
    let few : places_of o ≤ 2 ^ 20 = omega (arith, is.order.count, few_tables o.circuit is.sound, is.sound.few, is.sound.few_latches) in
    let product = mul-le frames (places_of o) (2 ^ 11) (2 ^ 20) less few in
    omega (arith, product)
