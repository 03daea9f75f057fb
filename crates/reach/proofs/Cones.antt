-- A search that is done has marked a cone.
use Rattle.std.proofs.Common.{◌≡◌, inl, inr, ℕ, zero, suc, Bool, true, false, List, [], ap, sym, ◌∙◌}
use Rattle.std.specs.Prelude.{◌↔◌, IsTrue}
use Rattle.std.specs.List.{All, Contains}
use Rattle.std.proofs.lemmas.Bool.{true≢false}
use Rattle.std.proofs.lemmas.List.Elements.{All-contains}
use Rattle.circuit.specs.declared.parts.Fault.{Fault}
use Rattle.circuit.specs.declared.parts.NetId.{NetId}
use Rattle.circuit.specs.Circuit.{Circuit}
use Rattle.circuit.specs.Value.{bit_at}
use Rattle.reach.specs.Paths.{ActsOn, CanChangeSome, IsCone, Path}
use Rattle.reach.specs.Search.{IsSearch}
use Rattle.reach.proofs.Finding.{in_none}

module _ (c : Circuit) (goals : List NetId) (marks : List Bool) (search : IsSearch c goals marks [] []) (all : All (λ (goal : NetId). bit_at marks goal.0 ≡ true) goals) where
  marked : (goal : NetId) → Contains goals goal → (n : ℕ) (net : NetId) → Path c n net goal → bit_at marks net.0 ≡ true
  marked goal at zero net same = ap (λ (m : NetId). bit_at marks m.0) same ∙ All-contains (λ (m : NetId). bit_at marks m.0 ≡ true) goals goal all at
  marked goal at (suc n) net path =
      elim (search.closed path.0 net (marked goal at n path.0 path.2) path.1) [
        | inl found ↦ found
        | inr still ↦ elim still [ inl waits ↦ absurd (in_none path.0 waits) | inr now ↦ absurd (in_none path.0 now) ]
      ]

  pub is_cone : IsCone c goals marks
  is_cone net = (search.leads net, λ leads. marked leads.0 leads.1 leads.2.0 net leads.2.1)

-- a fault that acts on this net alone
pub one_net_cone : (c : Circuit) (goals : List NetId) (marks : List Bool) (fault : Fault) (net : NetId) → IsCone c goals marks → ActsOn c net fault
    → ((m : NetId) → ActsOn c m fault → net ≡ m) → IsTrue (bit_at marks net.0) ↔ CanChangeSome c fault goals
one_net_cone c goals marks fault net cone acts alone = (
  λ is. (net, acts, (cone net).0 is),
  λ can. ap (λ (m : NetId). bit_at marks m.0) (alone can.0 can.1) ∙ (cone can.0).1 can.2,
)

-- a fault that acts on none
pub no_net_cone : (c : Circuit) (goals : List NetId) (fault : Fault) → ((m : NetId) → ActsOn c m fault → ⊥) → IsTrue false ↔ CanChangeSome c fault goals
no_net_cone c goals fault none = (λ is. absurd (true≢false (sym is)), λ can. absurd (none can.0 can.1))
