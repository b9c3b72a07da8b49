-- The terms of a list, one by one, and what is made to test a pair of secrecy.
use Rattle.std.proofs.Common.{◌≡◌, List, [], ◌∷◌, ◌++◌, map, sym, ap, ◌∙◌, append-nil, append_assoc}
use Rattle.std.proofs.lemmas.List.{map-append}
use Rattle.cv_syntax_trees.specs.declared.head.Head.{Head}
use Rattle.cv_syntax_trees.specs.Tree.{Tree, Empty, Node}
use Rattle.cv_scope_rules.specs.Context.{items}

module _ {A : Type 0} (f : A → Tree) (t : Tree) (found : List A) (total : List Tree) (i : map f found ++ items t ≡ total) where
  pub term_found : (h : Head) (a b : Tree) (x : A) (new : List A) → t ≡ Node h a b → f x ≡ a → new ≡ found ++ x ∷ [] → map f new ++ items b ≡ total
  term_found h a b x new e g j =
      let rest = items b in
      ap (λ xs. map f xs ++ rest) j
      ∙ (ap (λ ts. ts ++ rest) (map-append f found (x ∷ []))
      ∙ (append_assoc (map f found) (f x ∷ []) rest ∙ (ap (λ ts. map f found ++ ts) (ap (λ u. u ∷ rest) g ∙ sym (ap items e)) ∙ i)))

  pub terms_found : t ≡ Empty → map f found ≡ total
  terms_found e = sym (append-nil (map f found)) ∙ (ap (λ ts. map f found ++ ts) (sym (ap items e)) ∙ i)
