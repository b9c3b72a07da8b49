use Rattle.std.proofs.Common.{◌≡◌, ◌≢◌, ◌<◌, ◌≤◌, ℕ, zero, suc, List, [], ◌∷◌, ◌++◌, Some, length, take, slice_get, refl, ap, sym, ◌∙◌, subst, arith}
use Rattle.std.proofs.Math.ListN.{set}
use Rattle.cv_syntax.proofs.decls.note.Goals as goal

-- what is put at a place stands there, and other items stay
put-here : (xs : List ℕ) (i v : ℕ) → i < length xs → slice_get (set xs i v) i ≡ Some v
put-here [] i v l = absurd (omega arith)
put-here (x ∷ xs) zero v l = refl
put-here (x ∷ xs) (suc i) v l = put-here xs i v (omega arith)

put-other : (xs : List ℕ) (i v j k : ℕ) → j ≢ i → slice_get xs j ≡ Some k → slice_get (set xs i v) j ≡ Some k
put-other [] i v j k n e = e
put-other (x ∷ xs) zero v zero k n e = absurd (n refl)
put-other (x ∷ xs) zero v (suc j) k n e = e
put-other (x ∷ xs) (suc i) v zero k n e = e
put-other (x ∷ xs) (suc i) v (suc j) k n e = put-other xs i v j k (λ s. n (ap suc s)) e

-- so they do in a longer list
longer : (xs zs : List ℕ) (n j k : ℕ) → length xs ≤ n → slice_get xs j ≡ Some k → slice_get (take n xs ++ zs) j ≡ Some k
longer [] zs n j k l e = absurd (cc)
longer (x ∷ xs) zs zero j k l e = absurd (omega arith)
longer (x ∷ xs) zs (suc n) zero k l e = e
longer (x ∷ xs) zs (suc n) (suc j) k l e = longer xs zs n j k (omega arith) e

pub returns-in_default : goal.returns-in_default
returns-in_default c = record {
  here = λ x e. absurd (let f = c.in_default.ensures ∙ e in cc);
  others = λ x k n e. e;
}

pub returns-in_err-resize-clause-others : goal.returns-in_err-resize-clause-others
returns-in_err-resize-clause-others c = λ x k n e. ap (λ (l : List ℕ). slice_get l x) c.in_err-resize.ensures.items ∙ e

pub returns : goal.returns
returns c = record {
  here = λ x e. let s : c.in-Some.id.0 ≡ x = let f = c.in-Some.ensures ∙ e in cc in subst (λ y. slice_get (set c.resize.new.self.items c.in-Some.id.0 c.args.place) y ≡ Some c.args.place) s (put-here c.resize.new.self.items c.in-Some.id.0 c.args.place (omega (arith, c.in_ok-resize.ensures.len)));
  others = λ x k n e. put-other _ _ _ _ _ (λ s. n (sym c.in-Some.ensures ∙ ap (λ y. Some y) (sym s))) (ap (λ (l : List ℕ). slice_get l x) c.in_ok-resize.ensures.items ∙ longer c.args.index.now.items _ c.max.result x k (omega arith) e);
}
