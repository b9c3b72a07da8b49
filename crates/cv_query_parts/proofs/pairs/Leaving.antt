-- The parts behind the entries.
use Rattle.std.proofs.Common.{◌≡◌, ℕ, ◌+◌, ◌<◌, ◌≤◌, List, [], ◌∷◌, ◌++◌, length, drop, refl, sym, ap, ap₂, ◌∙◌, Option, Some, None, append-nil, append_assoc}
use Rattle.std.proofs.lemmas.List.{drop_all, drop_more}
use Rattle.cv_syntax_trees.specs.declared.head.Head.{Head}
use Rattle.cv_syntax_trees.specs.declared.head.Head.TheVariants.{Name}
use Rattle.cv_syntax_trees.specs.Tree.{Tree, Empty, Node}
use Rattle.cv_query_certificates.specs.PairParts.{behind_entries, names_in}
use Rattle.cv_query_parts.specs.pairs.Ends.{name_by}

-- entries, one by one

pub behind_more : (ps : List ℕ) (k : ℕ) (t : Tree) (h : Head) (part more : Tree) → k < length ps → t ≡ Node h part more → behind_entries (drop (k + 1) ps) more ≡ behind_entries (drop k ps) t
behind_more ps k t h part more l e = sym (ap₂ behind_entries (drop_more ps k 0 l) e)

pub behind_none : (ps : List ℕ) (k : ℕ) (t : Tree) → k < length ps → t ≡ Empty → Empty ≡ behind_entries (drop k ps) t
behind_none ps k t l e = sym (ap₂ behind_entries (drop_more ps k 0 l) e)

pub behind_all : (ps : List ℕ) (k : ℕ) (t : Tree) → length ps ≤ k → t ≡ behind_entries (drop k ps) t
behind_all ps k t l = sym (ap (λ qs. behind_entries qs t) (drop_all k ps l))

-- names, one by one

abbrev pub with_name : Option ℕ → List ℕ → List ℕ
with_name None xs = []
with_name (Some x) xs = x ∷ xs

one_name : (t : Tree) (h : Head) (item more : Tree) → t ≡ Node h item more → names_in t ≡ with_name (name_by item) (names_in more)
one_name t h item more e = ap names_in e ∙ go item
  where
    go : (u : Tree) → names_in (Node h u more) ≡ with_name (name_by u) (names_in more)
    go (Node (Name x) a b) = refl
    go u = refl

pub no_name : (t : Tree) (h : Head) (item more : Tree) (o : Option ℕ) (found total : List ℕ) → t ≡ Node h item more → o ≡ name_by item → o ≡ None → found ++ names_in t ≡ total → found ≡ total
no_name t h item more o found total e f g i =
    sym (append-nil found) ∙ (ap (λ xs. found ++ xs) (sym (one_name t h item more e ∙ ap (λ p. with_name p (names_in more)) (sym f ∙ g))) ∙ i)

pub name_more : (t : Tree) (h : Head) (item more : Tree) (o : Option ℕ) (x : ℕ) (found new total : List ℕ) → t ≡ Node h item more → o ≡ name_by item → o ≡ Some x → new ≡ found ++ x ∷ [] → found ++ names_in t ≡ total → new ++ names_in more ≡ total
name_more t h item more o x found new total e f g j i =
    ap (λ xs. xs ++ names_in more) j
    ∙ (append_assoc found (x ∷ []) (names_in more)
    ∙ (ap (λ xs. found ++ xs) (sym (one_name t h item more e ∙ ap (λ p. with_name p (names_in more)) (sym f ∙ g))) ∙ i))

pub names_end : (t : Tree) (found total : List ℕ) → t ≡ Empty → found ++ names_in t ≡ total → found ≡ total
names_end t found total e i = sym (append-nil found) ∙ (ap (λ u. found ++ names_in u) (sym e) ∙ i)
