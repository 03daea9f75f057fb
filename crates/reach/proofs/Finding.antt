-- The search, step by step.
use Rattle.std.proofs.Common.{◌≡◌, ◌≢◌, inl, inr, ℕ, suc, ◌+◌, ◌<◌, ◌≤◌, Bool, true, false, List, [], ◌∷◌, ◌++◌, length, get_or, set, refl, ap, sym, ◌∙◌, subst, arith, get_or-set_same, get_or-set_other, length-set}
use Rattle.std.specs.List.{All, Contains, sum_by}
use Rattle.std.specs.Prelude.{replicate}
use Rattle.std.proofs.lemmas.Bool.{cases_eq, cases_lt}
use Rattle.fm_base.proofs.Tests.{clash}
use Rattle.std.proofs.lemmas.List.{get_or-replicate, get_or_past, length-replicate, length_push}
use Rattle.std.proofs.lemmas.List.Elements.{All-contains, Contains-append_left, Contains-get_or, Contains-push, Contains-push_cases}
use Rattle.std.proofs.lemmas.List.Sums.{sum_by-set}
use Rattle.circuit.specs.declared.parts.NetId.{NetId}
use Rattle.circuit.specs.Circuit.{Circuit}
use Rattle.circuit.specs.Value.{bit_at, driver_at}
use Rattle.reach.specs.declared.search.Search.{Search}
use Rattle.reach.specs.Paths.{LeadsToSome, reads_of}
use Rattle.reach.specs.Search.{HasFound, IsSearch, steps_left, work_left}
use Rattle.reach.proofs.Unreached.{same_net}

-- nothing is in an empty list, and one item in a list of one
pub in_none : {X : Type 0} (x : X) → Contains [] x → ⊥
in_none x at = absurd (omega (arith, at.1))

pub in_one : {X : Type 0} (x y : X) → Contains (x ∷ []) y → x ≡ y
in_one x y at = elim (Contains-push_cases [] x y at) [ inl before ↦ absurd (in_none y before) | inr same ↦ same ]

-- nothing new was found
pub found_none : (s : Search) (nets : List NetId) → HasFound s nets s
found_none s nets = record {
  size = refl;
  grows = λ n e. e;
  keeps = λ net at. at;
  found = λ net e. inl e;
  left = λ net at. inl at;
}

module _ (old new : Search) (net : NetId) (lt : net.0 < length old.marks.items) (marks : new.marks.items ≡ set old.marks.items net.0 true)
    (left : new.left.items ≡ old.left.items ++ net ∷ []) where
  here : bit_at new.marks.items net.0 ≡ true
  here = ap (λ (bits : List Bool). bit_at bits net.0) marks ∙ get_or-set_same old.marks.items net.0 true false lt

  there : (n : ℕ) → n ≢ net.0 → bit_at new.marks.items n ≡ bit_at old.marks.items n
  there n apart = ap (λ (bits : List Bool). bit_at bits n) marks ∙ get_or-set_other old.marks.items net.0 n true false apart

  -- a new net was found
  pub found_new : HasFound old (net ∷ []) new
  found_new = record {
    size = ap (λ (bits : List Bool). length bits) marks ∙ length-set old.marks.items net.0 true;
    grows = λ n e. elim (cases_eq n net.0) [ inl same ↦ ap (bit_at new.marks.items) same ∙ here | inr apart ↦ there n apart ∙ e ];
    keeps = λ x at. subst (λ (xs : List NetId). Contains xs x) (sym left) (Contains-append_left old.left.items (net ∷ []) x at);
    found = λ x e. elim (cases_eq x.0 net.0) [
      | inl same ↦
          (let this : net ≡ x = same_net net x (sym same) in
          inr (
            subst (λ (y : NetId). Contains (net ∷ []) y) this (Contains-push [] net),
            subst (λ (xs : List NetId). Contains xs x) (sym left) (subst (λ (y : NetId). Contains (old.left.items ++ net ∷ []) y) this (Contains-push old.left.items net)),
          ))
      | inr apart ↦ inl (sym (there x.0 apart) ∙ e)
    ];
    left = λ x at. elim (Contains-push_cases old.left.items net x (subst (λ (xs : List NetId). Contains xs x) left at)) [
      | inl before ↦ inl before
      | inr this ↦ inr (ap (λ (y : NetId). bit_at new.marks.items y.0) (sym this) ∙ here)
    ];
  }

  pub found_less : bit_at old.marks.items net.0 ≡ false → work_left new ≤ work_left old
  found_less unmarked =
      let sums : sum_by steps_left new.marks.items + 2 ≡ sum_by steps_left old.marks.items =
      ap (λ (bits : List Bool). sum_by steps_left bits + 2) marks ∙ ap (λ b. sum_by steps_left (set old.marks.items net.0 true) + steps_left b) (sym unmarked)
      ∙ sum_by-set steps_left old.marks.items net.0 true false lt ∙ add_none (sum_by steps_left old.marks.items) in
      let more : length new.left.items ≡ length old.left.items + 1 = ap (λ (xs : List NetId). length xs) left ∙ length_push old.left.items net in
      omega (arith, sums, more)
    where
      add_none : (n : ℕ) → n + 0 ≡ n
      add_none n = omega arith

-- what was found in two steps, the second of which looked for some of the same nets
pub found_more : (s t u : Search) (nets more : List NetId) → HasFound s nets t → HasFound t more u → ((net : NetId) → Contains more net → Contains nets net)
    → HasFound s nets u
found_more s t u nets more first second among = record {
  size = second.size ∙ first.size;
  grows = λ n e. second.grows n (first.grows n e);
  keeps = λ net at. second.keeps net (first.keeps net at);
  found = λ net e. elim (second.found net e) [
    | inl before ↦ elim (first.found net before) [ inl earlier ↦ inl earlier | inr own ↦ inr (own.0, second.keeps net own.1) ]
    | inr own ↦ inr (among net own.0, own.1)
  ];
  left = λ net at. elim (second.left net at) [
    | inl before ↦ elim (first.left net before) [ inl earlier ↦ inl earlier | inr marked ↦ inr (second.grows net.0 marked) ]
    | inr marked ↦ inr marked
  ];
}

-- the search goes on with nets that lead to the goals
pub search_found : (c : Circuit) (goals nets busy : List NetId) (s t : Search) → IsSearch c goals s.marks.items s.left.items busy → HasFound s nets t
    → ((net : NetId) → Contains nets net → LeadsToSome c net goals) → IsSearch c goals t.marks.items t.left.items busy
search_found c goals nets busy s t search found leads = record {
  leads = λ net e. elim (found.found net e) [ inl before ↦ search.leads net before | inr own ↦ leads net own.0 ];
  closed = λ net read e reads. elim (found.found net e) [
    | inl before ↦ elim (search.closed net read before reads) [
      | inl marked ↦ inl (found.grows read.0 marked)
      | inr still ↦ elim still [ inl waits ↦ inr (inl (found.keeps net waits)) | inr now ↦ inr (inr now) ]
    ]
    | inr own ↦ inr (inl own.1)
  ];
}

-- a net is taken off the stack
pub search_taken : (c : Circuit) (goals : List NetId) (marks : List Bool) (left rest : List NetId) (net : NetId) → left ≡ rest ++ net ∷ []
    → IsSearch c goals marks left [] → IsSearch c goals marks rest (net ∷ [])
search_taken c goals marks left rest net is search = record {
  leads = search.leads;
  closed = λ x read e reads. elim (search.closed x read e reads) [
    | inl marked ↦ inl marked
    | inr still ↦ elim still [
      | inl waits ↦ elim (Contains-push_cases rest net x (subst (λ (xs : List NetId). Contains xs x) is waits)) [
        | inl before ↦ inr (inl before)
        | inr this ↦ inr (inr (subst (λ (y : NetId). Contains (net ∷ []) y) this (Contains-push [] net)))
      ]
      | inr none ↦ absurd (in_none x none)
    ]
  ];
}

-- and what its driver reads is found
pub search_looked : (c : Circuit) (goals : List NetId) (marks : List Bool) (left : List NetId) (net : NetId)
    → All (λ (read : NetId). bit_at marks read.0 ≡ true) (reads_of c (driver_at c net.0)) → IsSearch c goals marks left (net ∷ []) → IsSearch c goals marks left []
search_looked c goals marks left net all search = record {
  leads = search.leads;
  closed = λ x read e reads. elim (search.closed x read e reads) [
    | inl marked ↦ inl marked
    | inr still ↦ elim still [
      | inl waits ↦ inr (inl waits)
      | inr now ↦
          inl (All-contains (λ (m : NetId). bit_at marks m.0 ≡ true) (reads_of c (driver_at c net.0)) read all
          (subst (λ (y : NetId). Contains (reads_of c (driver_at c y.0)) read) (sym (in_one net x now)) reads))
    ]
  ];
}

-- what a driver reads leads where its net does
pub leads_back : (c : Circuit) (goals : List NetId) (net read : NetId) → LeadsToSome c net goals → Contains (reads_of c (driver_at c net.0)) read → LeadsToSome c read goals
leads_back c goals net read leads reads = (leads.0, leads.1, (suc leads.2.0, (net, reads, leads.2.1)))

-- A STEP: a net is taken, and what its driver reads is found
pub search_step : (c : Circuit) (goals : List NetId) (marks : List Bool) (left : List NetId) (net : NetId) (s t : Search) → left ≡ s.left.items ++ net ∷ [] → s.marks.items ≡ marks
    → bit_at marks net.0 ≡ true → HasFound s (reads_of c (driver_at c net.0)) t
    → All (λ (read : NetId). bit_at t.marks.items read.0 ≡ true) (reads_of c (driver_at c net.0))
    → IsSearch c goals marks left [] → IsSearch c goals t.marks.items t.left.items []
search_step c goals marks left net s t is same marked found all search =
    search_looked c goals t.marks.items t.left.items net all
    (search_found c goals (reads_of c (driver_at c net.0)) (net ∷ []) s t
    (subst (λ (bits : List Bool). IsSearch c goals bits s.left.items (net ∷ [])) (sym same) (search_taken c goals marks left s.left.items net is search)) found
    (λ read reads. leads_back c goals net read (search.leads net marked) reads))

-- before the first net is found
pub search_none : (c : Circuit) (goals : List NetId) (marks : List Bool) (left : List NetId) (n : ℕ) → marks ≡ replicate n false → IsSearch c goals marks left []
search_none c goals marks left n is = record {
  leads = λ net e. absurd (clash (bit_at marks net.0) e (unmarked net.0));
  closed = λ net read e reads. absurd (clash (bit_at marks net.0) e (unmarked net.0));
}
  where
    unmarked : (k : ℕ) → bit_at marks k ≡ false
    unmarked k = ap (λ (bits : List Bool). bit_at bits k) is ∙ elim (cases_lt k n) [
      | inl lt ↦ get_or-replicate n k false false lt
      | inr past ↦ get_or_past (replicate n false) k false (omega (arith, length-replicate n false, past))
    ]

-- each net that is left is marked, also after a step
pub left_marked : (s t : Search) (nets left : List NetId) (net : NetId) → HasFound s nets t → left ≡ s.left.items ++ net ∷ []
    → All (λ (m : NetId). bit_at s.marks.items m.0 ≡ true) left → All (λ (m : NetId). bit_at t.marks.items m.0 ≡ true) t.left.items
left_marked s t nets left net found is all k d lt =
    elim (found.left (get_or t.left.items k d) (Contains-get_or t.left.items k d lt)) [
      | inl before ↦
          found.grows (get_or t.left.items k d).0
          (All-contains (λ (m : NetId). bit_at s.marks.items m.0 ≡ true) left (get_or t.left.items k d) all
          (subst (λ (xs : List NetId). Contains xs (get_or t.left.items k d)) (sym is) (Contains-append_left s.left.items (net ∷ []) (get_or t.left.items k d) before)))
      | inr marked ↦ marked
    ]
