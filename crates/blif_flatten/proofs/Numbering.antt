-- Names that get numbers.
use Rattle.std.proofs.Common.{◌≡◌, ℕ, ◌+◌, ◌<◌, ◌≤◌, Bool, true, false, cond, List, [], ◌∷◌, ◌++◌, length, get_or, take, fold, map, refl, ap, sym, ◌∙◌, append_assoc, arith}
use Rattle.std.specs.Prelude.{Option, Some, None, flat_map, slice_get}
use Rattle.std.specs.Option.{option_map, option_to_list}
use Rattle.std.specs.Borrow.{Bor}
use Rattle.std.proofs.lemmas.List.{append-nil, length-append, map-append, map_more}
use Rattle.std.proofs.lemmas.List.Elements.{All-nil, All-cons, All-append}
use Rattle.std.proofs.lemmas.List.Sums.{fold-append}
use Rattle.std.proofs.lemmas.Grind.{common_steps, flat_map-append}
use Rattle.std.proofs.lemmas.Option.{get_or_from_slice_get, slice_get_within}
use Rattle.fm_base.specs.Names.{Name, distinct, is_one_of}
use Rattle.fm_base.specs.Index.{with_name}
use Rattle.fm_base.proofs.Distinct.{distinct-snoc, distinct-found, distinct-nil}
use Rattle.blif_text.specs.declared.token.Token.{Token}
use Rattle.blif_model.specs.LineFault.{Said}
use Rattle.blif_model.specs.Models.{rows_below}
use Rattle.blif_model.specs.Tokens.{texts_of}
use Rattle.blif_model.specs.Statement.{LatchLine}
use Rattle.blif_model.specs.Walk.{Act, Step, flat_latch, flat_table, visits}
use Rattle.blif_flatten.specs.declared.acts.Port.{Port}
use Rattle.blif_flatten.specs.declared.acts.Port.TheVariants.{In, Out, Clocking}
use Rattle.blif_flatten.specs.declared.flat.NameId.{NameId}
use Rattle.blif_flatten.specs.declared.flat.NumberedAct.{NumberedAct}
use Rattle.blif_flatten.specs.declared.flat.NumberedAct.TheVariants.{PortNets, Table, Latch}
use Rattle.blif_flatten.specs.declared.flat.NumberedLatch.{NumberedLatch}
use Rattle.blif_flatten.specs.declared.flat.NumberedStep.{NumberedStep}
use Rattle.blif_flatten.specs.Flat.{AreBelow, IsFlat, act_by, all_names, ids_in, mentioned, name_at, step_by, steps_by}
use Rattle.blif_flatten.specs.Numbering.{AreNumbered, HaveNumbers, IsKept, IsNumberedAs}
use Rattle.blif_flatten.specs.Ports.{own_act, some_nets}
use Rattle.blif_flatten.specs.Thinned.{kept_of, some_visits, thinned, unseen, with_step, with_steps}

-- ---- names that grow

longer : (old texts : List Name) → length old ≤ length (fold with_name old texts)
longer old [] = omega arith
longer old (text ∷ texts) = grind (arith, common_steps, longer (with_name old text) texts)

-- a name that is there keeps its place
name_stays : (old texts : List Name) (n : ℕ) → n < length old → get_or (fold with_name old texts) n [] ≡ get_or old n []
name_stays old [] n lt = refl
name_stays old (text ∷ texts) n lt = grind (arith, common_steps, name_stays (with_name old text) texts n)

-- names that went to others
module _ (old new texts : List Name) (grown : new ≡ fold with_name old texts) where
  below_later : (ids : List NameId) → AreBelow (length old) ids → AreBelow (length new) ids
  below_later ids below = λ k d lt. omega (arith, below k d lt, longer old texts, ap length grown)

  -- what holds whatever names go there later still holds
  kept : {X : Type 0} (value : List Name → X) (x : X) → ((later : List Name) → value (fold with_name old later) ≡ x)
      → (later : List Name) → value (fold with_name new later) ≡ x
  kept value x same later = rw (grown, ← fold-append with_name old texts later) (same (texts ++ later))

-- ---- numbers of names

pub numbered_none : (names : List Name) → HaveNumbers names names [] []
numbered_none names = record { names = refl; same = λ later. refl; within = λ k d lt. absurd (omega arith) }

pub numbered_one : (old new : List Name) (text : Name) (n : ℕ) → new ≡ with_name old text → slice_get new n ≡ Some text
    → HaveNumbers old new (text ∷ []) (record { 0 = n } ∷ [])
numbered_one old new text n e at =
    let lt = slice_get_within new n text at in
    record {
      names = e;
      same = λ later. rw (name_stays new later n lt, get_or_from_slice_get new n text [] at);
      within = All-cons (λ (id : NameId). id.0 < length new) _ [] lt (All-nil (λ (id : NameId). id.0 < length new));
    }

-- names, and names behind them
pub numbered_both : {old mid new xs ys : List Name} {ids js : List NameId} → HaveNumbers old mid xs ids → HaveNumbers mid new ys js
    → HaveNumbers old new (xs ++ ys) (ids ++ js)
numbered_both {old} {mid} {new} {xs} {ys} {ids} {js} a b = record {
  names = rw (fold-append with_name old xs ys, ← a.names) b.names;
  same = λ later.
      let front = kept _ _ ys b.names (λ (names : List Name). map (name_at names) ids) xs a.same later in
      rw (map-append (name_at (fold with_name new later)) ids js, front, b.same later);
  within = All-append (λ (id : NameId). id.0 < length new) ids js (below_later _ _ ys b.names ids a.within) b.within;
}

-- the loop over names
pub numbered_next : {old mid new : List Name} {ids : List NameId} {id : NameId} (net_of : Name → Name) (tokens : List Token) (i : ℕ)
    (token : Token) → i < length tokens → token ≡ get_or tokens i token → HaveNumbers old mid (map net_of (texts_of (take i tokens))) ids
    → HaveNumbers mid new (net_of token.text.now ∷ []) (id ∷ [])
    → HaveNumbers old new (map net_of (texts_of (take (i + 1) tokens))) (ids ++ id ∷ [])
numbered_next net_of tokens i token lt is before one =
    rw (map_more (λ (t : Token). t.text.now) tokens i token lt, ← is, map-append net_of (texts_of (take i tokens)) (token.text.now ∷ []))
    (numbered_both before one)

-- ---- names that are new

-- taken alone they make the same names of those that were there
unseen_names : (seen names : List Name) → fold with_name seen (unseen seen names) ≡ fold with_name seen names
unfolding unseen
unseen_names seen [] = refl
unseen_names seen (name ∷ names) = by_cases (is_one_of seen name) refl (unseen_names seen names) (unseen_names (seen ++ name ∷ []) names)
  where
    by_cases : (b : Bool) → is_one_of seen name ≡ b → fold with_name seen (unseen seen names) ≡ fold with_name seen names
        → fold with_name (seen ++ name ∷ []) (unseen (seen ++ name ∷ []) names) ≡ fold with_name (seen ++ name ∷ []) names
        → fold with_name seen (cond b (unseen seen names) (name ∷ unseen (seen ++ name ∷ []) names)) ≡ fold with_name (cond b seen (seen ++ name ∷ [])) names
    by_cases true e there new = there
    by_cases false e there new = ap (λ c. fold with_name (cond c seen (seen ++ name ∷ [])) (unseen (seen ++ name ∷ []) names)) e ∙ new

unseen_append : (seen xs ys : List Name) → unseen seen (xs ++ ys) ≡ unseen seen xs ++ unseen (fold with_name seen xs) ys
unfolding unseen
unseen_append seen [] ys = refl
unseen_append seen (x ∷ xs) ys = by_cases (is_one_of seen x) (unseen_append seen xs ys) (unseen_append (seen ++ x ∷ []) xs ys)
  where
    by_cases : (b : Bool) → unseen seen (xs ++ ys) ≡ unseen seen xs ++ unseen (fold with_name seen xs) ys
        → unseen (seen ++ x ∷ []) (xs ++ ys) ≡ unseen (seen ++ x ∷ []) xs ++ unseen (fold with_name (seen ++ x ∷ []) xs) ys
        → cond b (unseen seen (xs ++ ys)) (x ∷ unseen (seen ++ x ∷ []) (xs ++ ys))
        ≡ cond b (unseen seen xs) (x ∷ unseen (seen ++ x ∷ []) xs) ++ unseen (fold with_name (cond b seen (seen ++ x ∷ [])) xs) ys
    by_cases true there new = there
    by_cases false there new = ap (λ (names : List Name). x ∷ names) new

pub unseen_none : (names : List Name) → HaveNumbers names names (unseen names []) []
unfolding unseen
unseen_none names = numbered_none names

-- a name is new where there are more names than before
module _ (old new : List Name) (text : Name) (id : NameId) (have : HaveNumbers old new (text ∷ []) (id ∷ [])) where
  pub new_one : length old < length new → HaveNumbers old new (unseen old (text ∷ [])) (id ∷ [])
  unfolding unseen
  new_one more = by_cases (is_one_of old text) have.names
    where
      by_cases : (b : Bool) → new ≡ cond b old (old ++ text ∷ []) → HaveNumbers old new (cond b [] (text ∷ [])) (id ∷ [])
      by_cases true e = absurd (omega (arith, ap length e, more))
      by_cases false e = have

  pub new_none : length new ≤ length old → HaveNumbers old new (unseen old (text ∷ [])) []
  unfolding unseen
  new_none few = by_cases (is_one_of old text) have.names
    where
      by_cases : (b : Bool) → new ≡ cond b old (old ++ text ∷ []) → HaveNumbers old new (cond b [] (text ∷ [])) []
      by_cases true e = rw e (numbered_none old)
      by_cases false e = absurd (omega (arith, ap length e, length-append old (text ∷ []), few))

-- the loop over names of which those that are new are kept
pub new_next : {old mid new : List Name} {ids js : List NameId} (net_of : Name → Name) (tokens : List Token) (i : ℕ)
    (token : Token) → i < length tokens → token ≡ get_or tokens i token → HaveNumbers old mid (unseen old (map net_of (texts_of (take i tokens)))) ids
    → HaveNumbers mid new (unseen mid (net_of token.text.now ∷ [])) js
    → HaveNumbers old new (unseen old (map net_of (texts_of (take (i + 1) tokens)))) (ids ++ js)
new_next {old} {mid} net_of tokens i token lt is before one =
    let xs = map net_of (texts_of (take i tokens)) in
    let seen : mid ≡ fold with_name old xs = before.names ∙ unseen_names old xs in
    rw (
      map_more (λ (t : Token). t.text.now) tokens i token lt,
      ← is,
      map-append net_of (texts_of (take i tokens)) (token.text.now ∷ []),
      unseen_append old xs (net_of token.text.now ∷ []),
      ← seen,
    )
    (numbered_both before one)

-- ---- the names of a line

abbrev one_step : ℕ → Act → List Step
one_step line act = record { line = line; act = act } ∷ []

act_numbered : {old new : List Name} (act : Act) (numbered : NumberedAct) → HaveNumbers old new (mentioned act) (ids_in numbered)
    → ((later : List Name) → act_by (name_at (fold with_name new later)) numbered ≡ act) → IsNumberedAs old new act numbered
act_numbered {old} {new} act numbered have same = (
  same [],
  λ line. record {
    names = have.names ∙ ap (fold with_name old) (sym (append-nil _ ∙ ap mentioned (same [])));
    same = λ later. ap (one_step line) (same later ∙ sym (same []));
    within = All-cons (λ (s : NumberedStep). AreBelow (length new) (ids_in s.act)) _ [] have.within (λ k d lt. absurd (omega arith));
  },
)

pub ports_numbered : {old new texts : List Name} {ids : List NameId} (own : List Name → Act) (numbered : NumberedAct)
    → HaveNumbers old new texts ids → mentioned (own texts) ≡ texts ++ [] → ids_in numbered ≡ ids
    → ((f : NameId → Name) → act_by f numbered ≡ own (map f ids)) → IsNumberedAs old new (own texts) numbered
ports_numbered {old} {new} {texts} own numbered have brings is act =
    act_numbered (own texts) numbered (rw (brings, append-nil texts, is) have) (λ later. act _ ∙ ap own (have.same later))

pub table_numbered : {old mid new ins : List Name} {out : Name} {ids : List NameId} {id : NameId} (below : Bor (List Said))
    → HaveNumbers old mid ins ids → HaveNumbers mid new (out ∷ []) (id ∷ [])
    → IsNumberedAs old new (flat_table ins out (rows_below below.now)) (Table (record { ins = ids; out = id; below = below }))
table_numbered {old} {mid} {new} {ins} {out} {ids} below a b =
    act_numbered _ _ (rw (append-nil (ins ++ out ∷ [])) (numbered_both a b))
    (λ later. cc (kept _ _ (out ∷ []) b.names (λ (names : List Name). map (name_at names) ids) ins a.same later, b.same later))

option_listed : (f : NameId → Name) (o : Option NameId) (p : Option Name) → map f (option_to_list o) ≡ option_to_list p → option_map f o ≡ p
option_listed f None None e = refl
option_listed f (Some id) (Some name) e = cc
option_listed f None (Some name) e = cc
option_listed f (Some id) None e = cc

pub latch_numbered : {old one two new : List Name} (s : LatchLine) (l : NumberedLatch) → HaveNumbers old one (s.from ∷ []) (l.from ∷ [])
    → HaveNumbers one two (s.to ∷ []) (l.to ∷ []) → HaveNumbers two new (option_to_list s.control) (option_to_list l.control)
    → option_map (λ e. e.now) l.edge ≡ s.edge → l.start ≡ s.start → IsNumberedAs old new (flat_latch s) (Latch l)
latch_numbered {old} {one} {two} {new} s l from to control edge start =
    let all = numbered_both (numbered_both from to) control in
    act_numbered (flat_latch s) (Latch l) all (λ later.
    let f : NameId → Name = name_at (fold with_name new later) in
    let texts : f l.from ∷ f l.to ∷ map f (option_to_list l.control) ≡ s.from ∷ s.to ∷ option_to_list s.control = all.same later in
    let first : f l.from ≡ s.from = cc in
    let second : f l.to ≡ s.to = cc in
    ap flat_latch (rw (first, second, option_listed f l.control s.control (cc), edge, start)))

-- ---- steps

pub steps_none : (names : List Name) → AreNumbered names names []
steps_none names = record { names = refl; same = λ later. refl; within = λ k d lt. absurd (omega arith) }

abbrev names_in : List Step → List Name
names_in steps = flat_map (λ (s : Step). mentioned s.act) steps

-- steps, and steps behind them
pub steps_both : {old mid new : List Name} {xs ys : List NumberedStep} → AreNumbered old mid xs → AreNumbered mid new ys
    → AreNumbered old new (xs ++ ys) × (steps_by new (xs ++ ys) ≡ steps_by mid xs ++ steps_by new ys)
steps_both {old} {mid} {new} {xs} {ys} a b =
    let front = steps_by mid xs in
    let back = steps_by new ys in
    let all : (later : List Name) → steps_by (fold with_name new later) (xs ++ ys) ≡ front ++ back = λ later.
    let stay = kept _ _ (names_in back) b.names (λ (names : List Name). steps_by names xs) front a.same later in
    rw (map-append (step_by (name_at (fold with_name new later))) xs ys, stay, b.same later) in (
      record {
        names =
            let joined = flat_map-append (λ (s : Step). mentioned s.act) front back in
            rw (all [], joined, fold-append with_name old (names_in front) (names_in back), ← a.names) b.names;
        same = λ later. all later ∙ sym (all []);
        within = All-append (λ (s : NumberedStep). AreBelow (length new) (ids_in s.act)) xs ys
            (λ k d lt. below_later _ _ (names_in back) b.names (ids_in (get_or xs k d).act) (a.within k d lt)) b.within;
      },
      all [],
    )

-- ---- what is kept of a line

abbrev steps_at : ℕ → List Act → List Step
steps_at line acts = map (λ act. record { line = line; act = act }) acts

pub kept_none : (names : List Name) → IsKept names names [] None
unfolding with_steps
kept_none names = (λ before line e. sym (append-nil before), λ line. steps_none names)

-- a line that does more than to visit nets
pub kept_whole : {old new : List Name} (act : Act) (numbered : NumberedAct) → ((seen : List Name) → kept_of seen act ≡ act ∷ [])
    → IsNumberedAs old new act numbered → IsKept old new (act ∷ []) (Some numbered)
unfolding with_steps
kept_whole {old} {new} act numbered whole is = (
  λ before line e. ap (λ (acts : List Act). before ++ steps_at line acts) (whole (all_names before)) ∙ ap (λ (a : Act). before ++ one_step line a) (sym is.0),
  is.1,
)

pub own_whole : (port : Port) (texts seen : List Name) → kept_of seen (own_act port texts) ≡ own_act port texts ∷ []
own_whole In texts seen = refl
own_whole Out texts seen = refl
own_whole Clocking texts seen = refl

-- one that visits nets
pub kept_visits : {old new : List Name} (texts : List Name) (ids : List NameId) → HaveNumbers old new (unseen old texts) ids
    → IsKept old new (visits texts ∷ []) (some_nets ids)
unfolding with_steps
kept_visits {old} {new} texts [] have =
    let none : unseen old texts ≡ [] = sym (have.same []) in
    let same : new ≡ old = have.names ∙ ap (fold with_name old) none in (
      λ before line e.
          ap (λ (seen : List Name). before ++ steps_at line (some_visits (unseen seen texts))) e
          ∙ ap (λ (names : List Name). before ++ steps_at line (some_visits names)) none,
      λ line. rw same (steps_none old),
    )
kept_visits {old} {new} texts (id ∷ ids) have =
    let some : unseen old texts ≡ name_at new id ∷ map (name_at new) ids = sym (have.same []) in (
      λ before line e.
          ap (λ (seen : List Name). before ++ steps_at line (some_visits (unseen seen texts))) e
          ∙ ap (λ (names : List Name). before ++ steps_at line (some_visits names)) some,
      (ports_numbered visits (PortNets (id ∷ ids)) have refl refl (λ f. refl)).1,
    )

-- ---- the names of all steps

-- each name at its first place, from names that were done before
distinct_more : (done texts : List Name) → distinct (done ++ texts) ≡ fold with_name (distinct done) texts
distinct_more done [] = ap distinct (append-nil done)
distinct_more done (text ∷ texts) =
    rw (← append_assoc done (text ∷ []) texts, distinct_more (done ++ text ∷ []) texts, distinct-snoc done text, distinct-found done text)

names_more : (steps more : List Step) → all_names (steps ++ more) ≡ fold with_name (all_names steps) (names_in more)
unfolding all_names
names_more steps more = rw (flat_map-append (λ (s : Step). mentioned s.act) steps more) (distinct_more (names_in steps) (names_in more))

-- what is kept of a line has the names that the line brings
kept_names : (seen : List Name) (line : ℕ) (act : Act) → fold with_name seen (names_in (steps_at line (kept_of seen act))) ≡ fold with_name seen (mentioned act)
kept_names seen line (visits names) =
    ap (fold with_name seen) (by_cases (unseen seen names)) ∙ unseen_names seen names ∙ ap (fold with_name seen) (sym (append-nil names))
  where
    by_cases : (new : List Name) → names_in (steps_at line (some_visits new)) ≡ new
    by_cases [] = refl
    by_cases (name ∷ new) = append-nil ((name ∷ new) ++ []) ∙ append-nil (name ∷ new)
kept_names seen line act = ap (fold with_name seen) (append-nil (mentioned act))

pub names_with : (steps : List Step) (s : Step) → all_names (with_step steps s) ≡ fold with_name (all_names steps) (mentioned s.act)
names_with steps s = names_more steps (steps_at s.line (kept_of (all_names steps) s.act)) ∙ kept_names (all_names steps) s.line s.act

names_kept : (before steps : List Step) → all_names (with_steps before steps) ≡ fold with_name (all_names before) (names_in steps)
unfolding with_steps
names_kept before [] = refl
names_kept before (s ∷ steps) =
    names_kept (with_step before s) steps
    ∙ rw (names_with before s, fold-append with_name (all_names before) (mentioned s.act) (names_in steps)) refl

-- what is kept of the steps has all their names
pub names_thinned : (steps : List Step) → all_names (thinned steps) ≡ all_names steps
unfolding thinned
names_thinned steps = names_kept [] steps ∙ sym (names_more [] steps)

-- steps, and steps behind them
pub steps_with : (before steps more : List Step) → with_steps before (steps ++ more) ≡ with_steps (with_steps before steps) more
unfolding with_steps
steps_with before steps more = fold-append with_step before steps more

-- more steps have no fewer names
pub names_longer : (before steps more : List Step) → length (all_names (with_steps before steps)) ≤ length (all_names (with_steps before (steps ++ more)))
names_longer before steps more =
    let kept = with_steps before steps in
    rw (steps_with before steps more, names_kept kept more) (longer (all_names kept) (names_in more))

pub all_are : {names : List Name} {steps : List NumberedStep} → AreNumbered [] names steps → names ≡ all_names (steps_by names steps)
unfolding all_names
all_are {names} {steps} a =
    let texts = names_in (steps_by names steps) in
    a.names ∙ sym (distinct_more [] texts ∙ ap (λ (seen : List Name). fold with_name seen texts) distinct-nil)

pub flat_of : (names : List Name) (steps : List NumberedStep) → AreNumbered [] names steps → IsFlat names steps
flat_of names steps a = record { within = a.within; first = all_are a }
