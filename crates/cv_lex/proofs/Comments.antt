-- The end of a comment, step by step.
use Rattle.std.proofs.Common.{◌≡◌, ℕ, zero, suc, ◌+◌, ◌<◌, ◌≤◌, true, false, List, [], ◌∷◌, length, drop, get_or, Some, None, refl, sym, ap, ◌∙◌, arith, add-one}
use Rattle.std.proofs.lemmas.List.{drop_more}
use Rattle.cv_lex.specs.Lexis.{opens, closes, comment_end}

at_opening : (depth at a b : ℕ) (bs : List ℕ) → true ≡ opens a b → comment_end (suc depth) (at + 2) bs ≡ comment_end depth at (a ∷ b ∷ bs)
at_opening zero at a b bs e = let f = sym e in rw f refl
at_opening (suc depth) at a b bs e = let f = sym e in rw f refl

at_closing : (depth at a b : ℕ) (bs : List ℕ) → false ≡ opens a b → true ≡ closes a b → comment_end depth (at + 2) bs ≡ comment_end (suc depth) at (a ∷ b ∷ bs)
at_closing depth at a b bs e f = let g = sym e in let h = sym f in rw (g, h) refl

at_last : (at a b : ℕ) (bs : List ℕ) → false ≡ opens a b → true ≡ closes a b → Some (at + 2) ≡ comment_end 0 at (a ∷ b ∷ bs)
at_last at a b bs e f = let g = sym e in let h = sym f in rw (g, h) refl

at_other : (depth at a b : ℕ) (bs : List ℕ) → false ≡ opens a b → false ≡ closes a b → comment_end depth (at + 1) (b ∷ bs) ≡ comment_end depth at (a ∷ b ∷ bs)
at_other zero at a b bs e f = let g = sym e in let h = sym f in rw (g, h) refl
at_other (suc depth) at a b bs e f = let g = sym e in let h = sym f in rw (g, h) refl

-- the two bytes at a place, and what follows them
two : (bs : List ℕ) (at : ℕ) → at + 1 < length bs → drop at bs ≡ get_or bs at 0 ∷ get_or bs (at + 1) 0 ∷ drop (at + 2) bs
two bs at h =
    let e : at + 1 + 1 ≡ at + 2 = omega arith in
    drop_more bs at 0 (omega arith) ∙ ap (λ r. get_or bs at 0 ∷ r) (drop_more bs (at + 1) 0 h ∙ ap (λ k. get_or bs (at + 1) 0 ∷ drop k bs) e)

module _ (bs : List ℕ) (at : ℕ) (h : at + 1 < length bs) where
  pub opened : (depth : ℕ) → true ≡ opens (get_or bs at 0) (get_or bs (at + 1) 0) → comment_end (depth + 1) (at + 2) (drop (at + 2) bs) ≡ comment_end depth at (drop at bs)
  opened depth e = rw add-one (at_opening depth at (get_or bs at 0) (get_or bs (at + 1) 0) (drop (at + 2) bs) e ∙ ap (comment_end depth at) (sym (two bs at h)))

  pub closed : (depth less : ℕ) → depth ≡ suc less → false ≡ opens (get_or bs at 0) (get_or bs (at + 1) 0) → true ≡ closes (get_or bs at 0) (get_or bs (at + 1) 0) → comment_end less (at + 2) (drop (at + 2) bs) ≡ comment_end depth at (drop at bs)
  closed depth less d e f = at_closing less at (get_or bs at 0) (get_or bs (at + 1) 0) (drop (at + 2) bs) e f ∙ ap (comment_end (suc less) at) (sym (two bs at h)) ∙ ap (λ k. comment_end k at (drop at bs)) (sym d)

  pub last : (depth : ℕ) → depth ≡ 0 → false ≡ opens (get_or bs at 0) (get_or bs (at + 1) 0) → true ≡ closes (get_or bs at 0) (get_or bs (at + 1) 0) → Some (at + 2) ≡ comment_end depth at (drop at bs)
  last depth d e f = at_last at (get_or bs at 0) (get_or bs (at + 1) 0) (drop (at + 2) bs) e f ∙ ap (comment_end 0 at) (sym (two bs at h)) ∙ ap (λ k. comment_end k at (drop at bs)) (sym d)

  pub skipped : (depth : ℕ) → false ≡ opens (get_or bs at 0) (get_or bs (at + 1) 0) → false ≡ closes (get_or bs at 0) (get_or bs (at + 1) 0) → comment_end depth (at + 1) (drop (at + 1) bs) ≡ comment_end depth at (drop at bs)
  skipped depth e f =
      let k : at + 1 + 1 ≡ at + 2 = omega arith in
      ap (comment_end depth (at + 1)) (drop_more bs (at + 1) 0 h ∙ ap (λ k. get_or bs (at + 1) 0 ∷ drop k bs) k)
      ∙ at_other depth at (get_or bs at 0) (get_or bs (at + 1) 0) (drop (at + 2) bs) e f ∙ ap (comment_end depth at) (sym (two bs at h))

pub none_left : (depth at : ℕ) (bs : List ℕ) → length bs ≤ 1 → None ≡ comment_end depth at bs
none_left zero at [] h = refl
none_left (suc depth) at [] h = refl
none_left zero at (a ∷ []) h = refl
none_left (suc depth) at (a ∷ []) h = refl
none_left depth at (a ∷ b ∷ bs) h = absurd (omega arith)
