-- Conjuncts of facts can be cited.
use Rattle.std.proofs.Common.{◌≡◌, ℕ, zero, suc, Bool, true, false, ◌||◌, List, [], ◌∷◌, ◌++◌, map, Some, refl, sym, ap, subst, inl, inr}
use Rattle.std.specs.Prelude.{◌⊎◌}
use Rattle.std.specs.List.{list_any}
use Rattle.std.proofs.lemmas.Bool.{and_parts, both_ways, or_cases}
use Rattle.cv_syntax_trees.specs.declared.head.Head.TheVariants.{And, Eq}
use Rattle.cv_syntax_trees.specs.Tree.{Tree, Node, same_tree}
use Rattle.cv_syntax_trees.proofs.Equality.{same_tree_exact}
use Rattle.cv_syntax_trees.proofs.lists.Options.{none_some, slice_get_map, some_injective}
use Rattle.cv_syntax_trees.proofs.lists.Places.{slice_get_append_left}
use Rattle.cv_scene.specs.Late.{index_term}
use Rattle.cv_scene.specs.Sights.{from_one}
use Rattle.cv_scene.specs.lines.Given.{with_given}
use Rattle.cv_settling_rules.specs.Bodies.{are_current_by, is_index_by}
use Rattle.cv_settling_rules.specs.Conjuncts.{conjuncts, is_among, parts_of}
use Rattle.cv_settling_rules.specs.Lines.{Citation, IsCited, Left, Right, Side, along}
use Rattle.cv_settling_rules.specs.Reasons.{AreEquated, Equated, IsEquated}

any_append : (passes : Tree → Bool) (xs ys : List Tree) → list_any passes (xs ++ ys) ≡ true → (list_any passes xs ≡ true) ⊎ (list_any passes ys ≡ true)
any_append passes [] ys e = inr e
any_append passes (x ∷ xs) ys e = go (passes x) (any_append passes xs ys) e
  where
    go : (b : Bool) → (list_any passes (xs ++ ys) ≡ true → (list_any passes xs ≡ true) ⊎ (list_any passes ys ≡ true)) → (b || list_any passes (xs ++ ys)) ≡ true → ((b || list_any passes xs) ≡ true) ⊎ (list_any passes ys ≡ true)
    go true later f = inl refl
    go false later f = later f

-- a part of a term that passes a test, with the sides that lead to it
record IsSide (passes : Tree → Bool) (t : Tree) : Type 0 where
  sides : List Side
  part : Tree
  leads : along sides t ≡ Some part
  passed : passes part ≡ true

sides_to : (passes : Tree → Bool) (t : Tree) → list_any passes (parts_of t) ≡ true → IsSide passes t
unfolding parts_of
sides_to passes (Node And a b) e = go (any_append passes (parts_of a) (parts_of b) e) (sides_to passes a) (sides_to passes b)
  where
    go : (list_any passes (parts_of a) ≡ true) ⊎ (list_any passes (parts_of b) ≡ true) → (list_any passes (parts_of a) ≡ true → IsSide passes a) → (list_any passes (parts_of b) ≡ true → IsSide passes b) → IsSide passes (Node And a b)
    go (inl p) f g = let r = f p in record { sides = Left ∷ r.sides; part = r.part; leads = r.leads; passed = r.passed }
    go (inr p) f g = let r = g p in record { sides = Right ∷ r.sides; part = r.part; leads = r.leads; passed = r.passed }
sides_to passes t e = one (passes t) refl e
  where
    one : (b : Bool) → passes t ≡ b → (b || false) ≡ true → IsSide passes t
    one true p f = record { sides = []; part = t; leads = refl; passed = p }
    one false p f = absurd (both_ways false refl f)

pub record IsConjunct (passes : Tree → Bool) (facts : List Tree) : Type 0 where
  pub citation : Citation
  pub conjunct : Tree
  pub cited : IsCited facts citation conjunct
  pub passed : passes conjunct ≡ true

from_later : (t : Tree) (ts : List Tree) (k : ℕ) (x : Tree) → from_one ts k ≡ Some x → from_one (t ∷ ts) (suc k) ≡ Some x
from_later t ts zero x e = absurd (none_some x e)
from_later t ts (suc k) x e = e

pub cited : (passes : Tree → Bool) (facts : List Tree) → list_any passes (conjuncts facts) ≡ true → IsConjunct passes facts
cited passes [] e = absurd (both_ways false refl e)
cited passes (t ∷ ts) e = go (any_append passes (parts_of t) (conjuncts ts) e) (sides_to passes t) (cited passes ts)
  where
    go : (list_any passes (parts_of t) ≡ true) ⊎ (list_any passes (conjuncts ts) ≡ true) → (list_any passes (parts_of t) ≡ true → IsSide passes t) → (list_any passes (conjuncts ts) ≡ true → IsConjunct passes ts) → IsConjunct passes (t ∷ ts)
    go (inl p) f g = let r = f p in record { citation = record { fact = 1; term = t; sides = r.sides }; conjunct = r.part; cited = record { fact = refl; conjunct = r.leads }; passed = r.passed }
    go (inr p) f g =
        let r = g p in
        record {
          citation = record { fact = suc r.citation.fact; term = r.citation.term; sides = r.citation.sides };
          conjunct = r.conjunct;
          cited = record { fact = from_later t ts r.citation.fact r.citation.term r.cited.fact; conjunct = r.cited.conjunct };
          passed = r.passed;
        }

-- among more facts

from_more : (xs ys : List Tree) (k : ℕ) (x : Tree) → from_one xs k ≡ Some x → from_one (xs ++ ys) k ≡ Some x
from_more xs ys zero x e = absurd (none_some x e)
from_more xs ys (suc k) x e = slice_get_append_left xs ys k x e

pub cited_more : (xs ys : List Tree) (q : Citation) (m : Tree) → IsCited xs q m → IsCited (xs ++ ys) q m
cited_more xs ys q m c = record { fact = from_more xs ys q.fact q.term c.fact; conjunct = c.conjunct }

-- with terms for names

along_given : (is : List ℕ) (terms : Tree) (sides : List Side) (t u : Tree) → along sides t ≡ Some u → along sides (with_given is terms t) ≡ Some (with_given is terms u)
unfolding with_given
along_given is terms [] t u e = ap (λ x. Some (with_given is terms x)) (some_injective e)
along_given is terms (Left ∷ sides) (Node And a b) u e = along_given is terms sides a u e
along_given is terms (Right ∷ sides) (Node And a b) u e = along_given is terms sides b u e
along_given is terms (side ∷ sides) t u e = absurd (none_some u e)

from_map : (f : Tree → Tree) (xs : List Tree) (k : ℕ) (x : Tree) → from_one xs k ≡ Some x → from_one (map f xs) k ≡ Some (f x)
from_map f xs zero x e = absurd (none_some x e)
from_map f xs (suc k) x e = slice_get_map f xs k x e

pub cited_given : (is : List ℕ) (terms : Tree) (xs : List Tree) (q : Citation) (m : Tree) → IsCited xs q m → IsCited (map (with_given is terms) xs) (record { fact = q.fact; term = with_given is terms q.term; sides = q.sides }) (with_given is terms m)
cited_given is terms xs q m c = record { fact = from_map (with_given is terms) xs q.fact q.term c.fact; conjunct = along_given is terms q.sides q.term m c.conjunct }

-- equations with the current indices

pub all_equated : (facts : List Tree) (rs : List (ℕ × ℕ)) (ms : List Tree) → are_current_by (conjuncts facts) rs ms ≡ true → (es : List Equated) × AreEquated facts rs ms es
all_equated facts rs [] e = ([], refl)
all_equated facts [] (m ∷ ms) e = absurd (both_ways false refl e)
all_equated facts (r ∷ rs) (m ∷ ms) e =
    let p = and_parts (is_index_by (conjuncts facts) (index_term r) m) _ e in
    go (same_tree m (index_term r)) refl p.0 (all_equated facts rs ms p.1)
  where
    next : (b : Bool) (q : Citation) → same_tree m (index_term r) ≡ false → IsEquated facts m (index_term r) (record { term = m; index = index_term r; is_turned = b; citation = q }) → (es : List Equated) × AreEquated facts rs ms es → (es : List Equated) × AreEquated facts (r ∷ rs) (m ∷ ms) es
    next b q f i (es, k) = (record { term = m; index = index_term r; is_turned = b; citation = q } ∷ es, inr (f, record { term = m; index = index_term r; is_turned = b; citation = q }, es, refl, i, k))

    equal : (same_tree m (index_term r) ≡ false) → (is_among (conjuncts facts) (Node Eq m (index_term r)) ≡ true) ⊎ (is_among (conjuncts facts) (Node Eq (index_term r) m) ≡ true) → (es : List Equated) × AreEquated facts rs ms es → (es : List Equated) × AreEquated facts (r ∷ rs) (m ∷ ms) es
    equal f (inl a) k =
        let c = cited (same_tree (Node Eq m (index_term r))) facts a in
        next false c.citation f (record { term = refl; index = refl; conjunct = subst (IsCited facts c.citation) (sym (same_tree_exact (Node Eq m (index_term r)) c.conjunct c.passed)) c.cited }) k
    equal f (inr a) k =
        let c = cited (same_tree (Node Eq (index_term r) m)) facts a in
        next true c.citation f (record { term = refl; index = refl; conjunct = subst (IsCited facts c.citation) (sym (same_tree_exact (Node Eq (index_term r) m) c.conjunct c.passed)) c.cited }) k

    go : (b : Bool) → same_tree m (index_term r) ≡ b → (b || (is_among (conjuncts facts) (Node Eq m (index_term r)) || is_among (conjuncts facts) (Node Eq (index_term r) m))) ≡ true → (es : List Equated) × AreEquated facts rs ms es → (es : List Equated) × AreEquated facts (r ∷ rs) (m ∷ ms) es
    go true f x k = (k.0, inl (f, k.1))
    go false f x k = equal f (or_cases (is_among (conjuncts facts) (Node Eq m (index_term r))) _ x) k
