-- The names between brackets.
use Rattle.std.proofs.Common.{◌≡◌, ℕ, ◌+◌, Bool, true, false, cond, ◌⊎◌, inl, inr, List, [], ◌∷◌, refl, ap, sym, ◌∙◌, length, arith}
use Rattle.std.specs.Prelude.{Option, Some, None, codes}
use Rattle.std.specs.Option.{option_map}
use Rattle.fm_base.specs.Names.{Name}
use Rattle.bench_reader.specs.Gates.{gate_named, is_word}
use Rattle.bench_reader.specs.Meant.{is_end, listed, more_listed, HasNoMore, HasNoName}
use Rattle.bench_reader.specs.Statement.{nothing, wrong, more_names, statement_of}
use Rattle.bench_reader.specs.Steps.{driver_line, latch_line, names_in, port_line, table_line}
use Rattle.bench_reader.specs.declared.BenchKind.TheVariants.{BadLine}
use Rattle.bench_reader.specs.Tokens.{Token, opening, closing, comma, equals, name}

-- ---- names with commas

-- no name in front: none is listed, and only a closing bracket is well-formed
pub nothing_listed : (tokens : List Token) → HasNoName tokens → listed tokens ≡ []
nothing_listed [] h = refl
nothing_listed (name n ∷ tokens) h = absurd h
nothing_listed (_ ∷ tokens) h = refl

pub nothing_more_listed : (tokens : List Token) → HasNoMore tokens → more_listed tokens ≡ []
nothing_more_listed [] h = refl
nothing_more_listed (comma ∷ []) h = refl
nothing_more_listed (comma ∷ name n ∷ tokens) h = absurd h
nothing_more_listed (comma ∷ opening ∷ tokens) h = refl
nothing_more_listed (comma ∷ closing ∷ tokens) h = refl
nothing_more_listed (comma ∷ comma ∷ tokens) h = refl
nothing_more_listed (comma ∷ equals ∷ tokens) h = refl
nothing_more_listed (opening ∷ tokens) h = refl
nothing_more_listed (closing ∷ tokens) h = refl
nothing_more_listed (equals ∷ tokens) h = refl
nothing_more_listed (name n ∷ tokens) h = refl

pub no_more_names : (tokens : List Token) → HasNoMore tokens → more_names tokens ≡ cond (is_end tokens) (Some []) None
no_more_names [] h = refl
no_more_names (comma ∷ []) h = refl
no_more_names (comma ∷ name n ∷ tokens) h = absurd h
no_more_names (comma ∷ opening ∷ tokens) h = refl
no_more_names (comma ∷ closing ∷ tokens) h = refl
no_more_names (comma ∷ comma ∷ tokens) h = refl
no_more_names (comma ∷ equals ∷ tokens) h = refl
no_more_names (opening ∷ tokens) h = refl
no_more_names (closing ∷ []) h = refl
no_more_names (closing ∷ t ∷ tokens) h = refl
no_more_names (equals ∷ tokens) h = refl
no_more_names (name n ∷ tokens) h = refl

pub no_names_in : (tokens : List Token) → HasNoName tokens → names_in tokens ≡ cond (is_end tokens) (Some []) None
no_names_in [] h = refl
no_names_in (name n ∷ tokens) h = absurd h
no_names_in (opening ∷ tokens) h = refl
no_names_in (closing ∷ []) h = refl
no_names_in (closing ∷ t ∷ tokens) h = refl
no_names_in (comma ∷ tokens) h = refl
no_names_in (equals ∷ tokens) h = refl

-- a comma that no name follows
pub no_name_more : (tokens : List Token) → HasNoName tokens → HasNoMore (comma ∷ tokens)
no_name_more [] h = tt
no_name_more (name n ∷ tokens) h = absurd h
no_name_more (_ ∷ tokens) h = tt

-- names that are well-formed are those that are listed
pub more_are_listed : (tokens : List Token) (names : List Name) → more_names tokens ≡ Some names → more_listed tokens ≡ names
more_are_listed [] names e = cc
more_are_listed (closing ∷ []) names e = cc
more_are_listed (closing ∷ t ∷ tokens) names e = cc
more_are_listed (comma ∷ []) names e = cc
more_are_listed (comma ∷ name n ∷ tokens) names e = by_cases (more_names tokens) (more_are_listed tokens) refl e
  where
    by_cases : (o : Option (List Name)) → ((ns : List Name) → more_names tokens ≡ Some ns → more_listed tokens ≡ ns)
        → more_names tokens ≡ o → option_map (λ (ns : List Name). n ∷ ns) o ≡ Some names → n ∷ more_listed tokens ≡ names
    by_cases None more f g = cc
    by_cases (Some ns) more f g = let same : n ∷ ns ≡ names = cc in ap (λ (xs : List Name). n ∷ xs) (more ns f) ∙ same
more_are_listed (comma ∷ opening ∷ tokens) names e = cc
more_are_listed (comma ∷ closing ∷ tokens) names e = cc
more_are_listed (comma ∷ comma ∷ tokens) names e = cc
more_are_listed (comma ∷ equals ∷ tokens) names e = cc
more_are_listed (opening ∷ tokens) names e = cc
more_are_listed (equals ∷ tokens) names e = cc
more_are_listed (name n ∷ tokens) names e = cc

pub names_are_listed : (tokens : List Token) (names : List Name) → names_in tokens ≡ Some names → listed tokens ≡ names
names_are_listed [] names e = cc
names_are_listed (name n ∷ tokens) names e = by_cases (more_names tokens) refl e
  where
    by_cases : (o : Option (List Name)) → more_names tokens ≡ o → option_map (λ (ns : List Name). n ∷ ns) o ≡ Some names → n ∷ more_listed tokens ≡ names
    by_cases None f g = cc
    by_cases (Some ns) f g = let same : n ∷ ns ≡ names = cc in ap (λ (xs : List Name). n ∷ xs) (more_are_listed tokens ns f) ∙ same
names_are_listed (closing ∷ []) names e = cc
names_are_listed (closing ∷ t ∷ tokens) names e = cc
names_are_listed (opening ∷ tokens) names e = cc
names_are_listed (comma ∷ tokens) names e = cc
names_are_listed (equals ∷ tokens) names e = cc

-- with a count, the names are those that are listed
pub counted_names : (tokens : List Token) (count : ℕ) → Some count ≡ option_map length (names_in tokens) → (names_in tokens ≡ Some (listed tokens)) × (count ≡ length (listed tokens))
counted_names tokens count e = by_cases (names_in tokens) refl e
  where
    some_same : (a b : ℕ) → Some a ≡ Some b → a ≡ b
    some_same a b e = cc

    by_cases : (o : Option (List Name)) → names_in tokens ≡ o → Some count ≡ option_map length o → (names_in tokens ≡ Some (listed tokens)) × (count ≡ length (listed tokens))
    by_cases None f g = cc
    by_cases (Some ns) f g =
        let same = names_are_listed tokens ns f in
        (f ∙ ap (λ (xs : List Name). Some xs) (sym same), some_same count (length ns) g ∙ ap (λ (xs : List Name). length xs) (sym same))

-- without one, they are not well-formed
pub uncounted_names : (tokens : List Token) → None ≡ option_map (λ (names : List Name). length names) (names_in tokens) → names_in tokens ≡ None
uncounted_names tokens e = by_cases (names_in tokens) e
  where
    by_cases : (o : Option (List Name)) → None ≡ option_map (λ (names : List Name). length names) o → o ≡ None
    by_cases None f = refl
    by_cases (Some ns) f = cc

-- ---- counting

abbrev sum_of : ℕ → Option (List Name) → Option ℕ
sum_of n o = option_map (λ (names : List Name). n + length names) o

-- one more name behind a comma
pub one_counted : (count : ℕ) (n : Name) (tokens rest : List Token) (all : Option ℕ) → tokens ≡ comma ∷ name n ∷ rest → sum_of count (more_names tokens) ≡ all
    → sum_of (count + 1) (more_names rest) ≡ all
one_counted count n tokens rest all e told = by_cases (more_names rest) refl ∙ ap (λ (ts : List Token). sum_of count (more_names ts)) (sym e) ∙ told
  where
    by_cases : (o : Option (List Name)) → more_names rest ≡ o → sum_of (count + 1) (more_names rest) ≡ sum_of count (option_map (λ (ns : List Name). n ∷ ns) (more_names rest))
    by_cases None f = rw f refl
    by_cases (Some ns) f = rw f (ap (λ k. Some k) (omega arith))

-- the end of the names
pub count_ended : (count : ℕ) (tokens : List Token) (all : Option ℕ) → HasNoMore tokens → is_end tokens ≡ true → sum_of count (more_names tokens) ≡ all → Some count ≡ all
count_ended count tokens all h e told =
    let ended : more_names tokens ≡ Some [] = no_more_names tokens h ∙ rw e refl in
    let same : count ≡ count + 0 = omega arith in
    ap (λ k. Some k) same ∙ ap (sum_of count) (sym ended) ∙ told

pub count_broken : (count : ℕ) (tokens : List Token) (all : Option ℕ) → HasNoMore tokens → is_end tokens ≡ false → sum_of count (more_names tokens) ≡ all → None ≡ all
count_broken count tokens all h e told =
    let broken : more_names tokens ≡ None = no_more_names tokens h ∙ rw e refl in
    ap (sum_of count) (sym broken) ∙ told

-- ---- drivers

pub driver_latch : (out word : Name) (tokens : List Token) → names_in tokens ≡ Some (listed tokens) → is_word (codes "DFF") word ≡ true
    → latch_line out (listed tokens) ≡ driver_line out word (names_in tokens)
driver_latch out word tokens e f = sym (ap (driver_line out word) e ∙ rw f refl)

pub driver_table : (out word : Name) (tokens : List Token) → names_in tokens ≡ Some (listed tokens) → is_word (codes "DFF") word ≡ false
    → table_line out (gate_named word) (listed tokens) ≡ driver_line out word (names_in tokens)
driver_table out word tokens e f = sym (ap (driver_line out word) e ∙ rw f refl)

-- ---- statements

-- one of four facts
pub four_ways : {A B C D : Type 0} (P : Type 0) → A ⊎ (B ⊎ (C ⊎ D)) → (A → P) → (B → P) → (C → P) → (D → P) → P
four_ways P (inl a) f g h k = f a
four_ways P (inr (inl b)) f g h k = g b
four_ways P (inr (inr (inl c))) f g h k = h c
four_ways P (inr (inr (inr d))) f g h k = k d

pub three_ways : {A B C : Type 0} (P : Type 0) → A ⊎ (B ⊎ C) → (A → P) → (B → P) → (C → P) → P
three_ways P (inl a) f g h = f a
three_ways P (inr (inl b)) f g h = g b
three_ways P (inr (inr c)) f g h = h c

abbrev pub is_opening : Token → Bool
is_opening opening = true
is_opening _ = false

abbrev pub goes_on : Token → Bool
goes_on opening = true
goes_on equals = true
goes_on _ = false

abbrev pub is_name : Token → Bool
is_name (name n) = true
is_name _ = false

pub word_open : (out word : Name) (tokens rest : List Token) → tokens ≡ opening ∷ rest → driver_line out word (names_in rest) ≡ statement_of (name out ∷ equals ∷ name word ∷ tokens)
unfolding statement_of
word_open out word tokens rest e = ap (λ (ts : List Token). statement_of (name out ∷ equals ∷ name word ∷ ts)) (sym e)

pub word_broken : (out word : Name) (tokens rest : List Token) (t : Token) → is_opening t ≡ false → tokens ≡ t ∷ rest → wrong BadLine ≡ statement_of (name out ∷ equals ∷ name word ∷ tokens)
unfolding statement_of
word_broken out word tokens rest opening h e = cc
word_broken out word tokens rest closing h e = ap (λ (ts : List Token). statement_of (name out ∷ equals ∷ name word ∷ ts)) (sym e)
word_broken out word tokens rest comma h e = ap (λ (ts : List Token). statement_of (name out ∷ equals ∷ name word ∷ ts)) (sym e)
word_broken out word tokens rest equals h e = ap (λ (ts : List Token). statement_of (name out ∷ equals ∷ name word ∷ ts)) (sym e)
word_broken out word tokens rest (name n) h e = ap (λ (ts : List Token). statement_of (name out ∷ equals ∷ name word ∷ ts)) (sym e)

pub word_alone : (out word : Name) (tokens : List Token) → tokens ≡ [] → wrong BadLine ≡ statement_of (name out ∷ equals ∷ name word ∷ tokens)
unfolding statement_of
word_alone out word tokens e = ap (λ (ts : List Token). statement_of (name out ∷ equals ∷ name word ∷ ts)) (sym e)

pub name_goes_on : (first : Name) (tokens rest : List Token) (t : Token) → tokens ≡ t ∷ rest → statement_of (name first ∷ t ∷ rest) ≡ statement_of (name first ∷ tokens)
name_goes_on first tokens rest t e = ap (λ (ts : List Token). statement_of (name first ∷ ts)) (sym e)

pub name_broken : (first : Name) (tokens rest : List Token) (t : Token) → goes_on t ≡ false → tokens ≡ t ∷ rest → wrong BadLine ≡ statement_of (name first ∷ tokens)
unfolding statement_of
name_broken first tokens rest opening h e = cc
name_broken first tokens rest equals h e = cc
name_broken first tokens rest closing h e = ap (λ (ts : List Token). statement_of (name first ∷ ts)) (sym e)
name_broken first tokens rest comma h e = ap (λ (ts : List Token). statement_of (name first ∷ ts)) (sym e)
name_broken first tokens rest (name n) h e = ap (λ (ts : List Token). statement_of (name first ∷ ts)) (sym e)

pub name_alone : (first : Name) (tokens : List Token) → tokens ≡ [] → wrong BadLine ≡ statement_of (name first ∷ tokens)
unfolding statement_of
name_alone first tokens e = ap (λ (ts : List Token). statement_of (name first ∷ ts)) (sym e)

pub mark_alone : (tokens rest : List Token) (t : Token) → is_name t ≡ false → tokens ≡ t ∷ rest → wrong BadLine ≡ statement_of tokens
unfolding statement_of
mark_alone tokens rest opening h e = ap statement_of (sym e)
mark_alone tokens rest closing h e = ap statement_of (sym e)
mark_alone tokens rest comma h e = ap statement_of (sym e)
mark_alone tokens rest equals h e = ap statement_of (sym e)
mark_alone tokens rest (name n) h e = cc

pub no_tokens : (tokens : List Token) → tokens ≡ [] → nothing ≡ statement_of tokens
unfolding statement_of
no_tokens tokens e = ap statement_of (sym e)

pub port_broken : (word : Name) (tokens : List Token) → HasNoName tokens → statement_of (name word ∷ opening ∷ tokens) ≡ wrong BadLine
unfolding statement_of
port_broken word [] h = refl
port_broken word (name n ∷ tokens) h = absurd h
port_broken word (_ ∷ tokens) h = refl

pub port_ended : (word net : Name) (tokens : List Token) → is_end tokens ≡ true → statement_of (name word ∷ opening ∷ name net ∷ tokens) ≡ port_line word net
unfolding statement_of
port_ended word net [] e = cc
port_ended word net (closing ∷ []) e = refl
port_ended word net (closing ∷ t ∷ tokens) e = cc
port_ended word net (opening ∷ tokens) e = cc
port_ended word net (comma ∷ tokens) e = cc
port_ended word net (equals ∷ tokens) e = cc
port_ended word net (name n ∷ tokens) e = cc

pub port_open : (word net : Name) (tokens : List Token) → is_end tokens ≡ false → statement_of (name word ∷ opening ∷ name net ∷ tokens) ≡ wrong BadLine
unfolding statement_of
port_open word net [] e = refl
port_open word net (closing ∷ []) e = cc
port_open word net (closing ∷ t ∷ tokens) e = refl
port_open word net (opening ∷ tokens) e = refl
port_open word net (comma ∷ tokens) e = refl
port_open word net (equals ∷ tokens) e = refl
port_open word net (name n ∷ tokens) e = refl

pub driver_broken : (out : Name) (tokens : List Token) → HasNoName tokens → statement_of (name out ∷ equals ∷ tokens) ≡ wrong BadLine
unfolding statement_of
driver_broken out [] h = refl
driver_broken out (name n ∷ tokens) h = absurd h
driver_broken out (_ ∷ tokens) h = refl
