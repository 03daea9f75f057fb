-- A file that is cut and then written on, call by call.
use Rattle.std.proofs.Common.{◌≡◌, ℕ, ◌≤◌, List, [], ◌∷◌, ◌++◌, length, map, take, drop, ap, sym, subst, ◌∙◌, append_assoc, append-nil}
use Rattle.std.proofs.lemmas.List.{map-append, drop-append-le, take-append-drop}
use Rattle.fm_shelf.specs.Past.{Given, Change, Took, Tore, Cut, WritesOn, StopsOn, AtPiece}

-- what is taken of a text that follows the bytes that stand
module _ (whole : ℕ) (text piece : List ℕ) (given : List Given) (start before now : List Change) (fits : whole ≤ length text)
    (wrote : WritesOn whole text given start before) where
  -- a piece more was taken
  pub writes_more : now ≡ before ++ map Took piece → WritesOn whole (text ++ piece) given start now
  writes_more took =
      took ∙ ap (λ front. front ++ map Took piece) wrote ∙ append_assoc start (Cut given whole ∷ map Took (drop whole text)) (map Took piece)
      ∙ ap (λ changes. start ++ Cut given whole ∷ changes)
      (sym (map-append Took (drop whole text) piece) ∙ ap (map Took) (sym (drop-append-le whole text piece fits)))

  -- a part of it, before an append of the rest failed
  pub stops_more : (n : ℕ) × (now ≡ before ++ (map Took (take n piece) ++ Tore (drop n piece) ∷ [])) → StopsOn whole (text ++ piece) given start now
  stops_more (n, tore) =
      let front : List ℕ = drop whole text ++ take n piece in
      let all : front ++ drop n piece ≡ drop whole (text ++ piece) =
      append_assoc (drop whole text) (take n piece) (drop n piece) ∙ ap (λ rest. drop whole text ++ rest) (take-append-drop n piece)
      ∙ sym (drop-append-le whole text piece fits) in
      AtPiece front (drop n piece) ([], append-nil (front ++ drop n piece) ∙ all)
      (tore ∙ ap (λ changes. changes ++ (map Took (take n piece) ++ Tore (drop n piece) ∷ [])) wrote
      ∙ append_assoc start (Cut given whole ∷ map Took (drop whole text)) (map Took (take n piece) ++ Tore (drop n piece) ∷ [])
      ∙ ap (λ changes. start ++ Cut given whole ∷ changes)
      (sym (append_assoc (map Took (drop whole text)) (map Took (take n piece)) (Tore (drop n piece) ∷ []))
      ∙ ap (λ changes. changes ++ Tore (drop n piece) ∷ []) (sym (map-append Took (drop whole text) (take n piece)))))

-- what is taken of a file that was cut to nothing
module _ (whole : ℕ) (text : List ℕ) (given : List Given) (before mid now : List Change) (none : whole ≡ 0) (cut : mid ≡ before ++ Cut given whole ∷ []) where
  pub writes_begin : now ≡ mid ++ map Took text → WritesOn whole text given before now
  writes_begin took =
      took ∙ ap (λ front. front ++ map Took text) cut ∙ append_assoc before (Cut given whole ∷ []) (map Took text)
      ∙ ap (λ n. before ++ Cut given whole ∷ map Took (drop n text)) (sym none)

  pub stops_begin : (n : ℕ) × (now ≡ mid ++ (map Took (take n text) ++ Tore (drop n text) ∷ [])) → StopsOn whole text given before now
  stops_begin (n, tore) =
      let all : take n text ++ drop n text ≡ drop whole text = take-append-drop n text ∙ ap (λ m. drop m text) (sym none) in
      AtPiece (take n text) (drop n text) ([], append-nil (take n text ++ drop n text) ∙ all)
      (tore ∙ ap (λ changes. changes ++ (map Took (take n text) ++ Tore (drop n text) ∷ [])) cut
      ∙ append_assoc before (Cut given whole ∷ []) (map Took (take n text) ++ Tore (drop n text) ∷ []))

-- where no file was read since, what had been read before the cut is all that was
module _ (whole : ℕ) (text : List ℕ) (before now : List ℕ → List Given) (name : List ℕ) (start after : List Change) (unread : now ≡ before) where
  pub writes_unread : WritesOn whole text (before name) start after → WritesOn whole text (now name) start after
  writes_unread wrote = subst (λ (given : List ℕ → List Given). WritesOn whole text (given name) start after) (sym unread) wrote

  pub stops_unread : StopsOn whole text (before name) start after → StopsOn whole text (now name) start after
  stops_unread stops = subst (λ (given : List ℕ → List Given). StopsOn whole text (given name) start after) (sym unread) stops
