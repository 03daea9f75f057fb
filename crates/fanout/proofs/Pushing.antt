-- The edges of one place more.
use Rattle.std.proofs.Common.{◌≡◌, ℕ, suc, ◌+◌, ◌<◌, List, [], ◌∷◌, ◌++◌, length, map, take, get_or, append_assoc, ap, sym, ◌∙◌, arith}
use Rattle.std.proofs.lemmas.List.{append-nil, length-take-le, length-map, map_more}
use Rattle.circuit.specs.declared.parts.NetId.{NetId}
use Rattle.fanout.specs.Edges.{edges_at, edges_from}

-- places behind others
pub edges_from-append : (q : ℕ) (reads more : List (List NetId)) → edges_from q (reads ++ more) ≡ edges_from q reads ++ edges_from (q + length reads) more
edges_from-append q [] more = let same : q ≡ q + 0 = omega arith in ap (λ p. edges_from p more) same
edges_from-append q (nets ∷ rest) more =
    let same : (q + 1) + length rest ≡ q + suc (length rest) = omega arith in
    ap (λ es. edges_at q nets ++ es) (edges_from-append (q + 1) rest more ∙ ap (λ p. edges_from (q + 1) rest ++ edges_from p more) same)
    ∙ sym (append_assoc (edges_at q nets) (edges_from (q + 1) rest) (edges_from (q + suc (length rest)) more))

-- one place more
pub edges_from-more : {X : Type 0} (f : X → List NetId) (q : ℕ) (xs : List X) (i : ℕ) (d : X) → i < length xs
    → edges_from q (map f (take i xs)) ++ edges_at (q + i) (f (get_or xs i d)) ≡ edges_from q (map f (take (i + 1) xs))
edges_from-more f q xs i d lt =
    let size : length (map f (take i xs)) ≡ i = length-map (take i xs) f ∙ length-take-le i xs (omega arith) in
    sym
    (ap (edges_from q) (map_more f xs i d lt)
    ∙ edges_from-append q (map f (take i xs)) (f (get_or xs i d) ∷ [])
    ∙ ap (λ p. edges_from q (map f (take i xs)) ++ edges_from (q + p) (f (get_or xs i d) ∷ [])) size
    ∙ ap (λ es. edges_from q (map f (take i xs)) ++ es) (append-nil (edges_at (q + i) (f (get_or xs i d)))))
