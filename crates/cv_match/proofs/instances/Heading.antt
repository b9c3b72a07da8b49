-- A term with a head that no body begins with is no instance.
use Rattle.std.proofs.Common.{◌≡◌, ℕ, suc, Bool, true, false, ◌&&◌, List, [], ◌∷◌, Some, None, refl, ap, ◌∙◌}
use Rattle.std.specs.Prelude.{◌||◌, if◌then◌else◌}
use Rattle.std.specs.List.{list_any}
use Rattle.cv_syntax_trees.specs.declared.head.Head.{Head}
use Rattle.cv_syntax_trees.specs.declared.head.Head.TheVariants.{Leaf}
use Rattle.cv_syntax_trees.specs.Head.{code}
use Rattle.cv_syntax_trees.specs.Tree.{Tree, Empty, Node, same_tree}
use Rattle.cv_scene.specs.lines.Given.{with_given}
use Rattle.cv_syntax_trees.specs.sites.Sites.{first_of}
use Rattle.cv_meaning.specs.contexts.Groups.{Function, Group}
use Rattle.cv_scene.specs.Instances.{Instance, Matching, call_by, filled, first_call, guess, instance_of, is_instance, names_of, terms_of}
use Rattle.cv_match_terms.specs.heads.Beginnings.{begins, is_code, code_of}

other_body : (g : Group) (f : Function) (I : Instance) (k : Head) (c d : Tree) → begins k f ≡ false → same_tree (filled g f I) (Node k c d) ≡ false
unfolding with_given same_tree
other_body g f I k c d e = by_body f.body e
  where
    by_body : (b : Tree) → is_code (code k) (code_of b) ≡ false → same_tree (with_given (names_of g f) (terms_of I) b) (Node k c d) ≡ false
    by_body Empty i = absurd (cc)
    by_body (Node (Leaf x) a b) i = absurd (cc)
    by_body (Node h a b) i = ap (λ v. v && (same_tree (with_given (names_of g f) (terms_of I) a) c && same_tree (with_given (names_of g f) (terms_of I) b) d)) i

no_instance : (M : Matching) (f : Function) (k : Head) (c d : Tree) → begins k f ≡ false → instance_of M f (Node k c d) ≡ None
no_instance M f k c d e = by_test (is_instance M f (guess M.group f (Node k c d)) (Node k c d)) (first_false _ _ (other_body M.group f (guess M.group f (Node k c d)) k c d e))
  where
    first_false : (a b : Bool) → a ≡ false → (a && b) ≡ false
    first_false true b i = absurd (cc)
    first_false false b i = refl

    by_test : (v : Bool) → v ≡ false → (if v then Some (guess M.group f (Node k c d)) else None) ≡ None
    by_test true i = absurd (cc)
    by_test false i = refl

pub no_call : (M : Matching) (p : ℕ) (fs : List Function) (k : Head) (c d : Tree) → list_any (begins k) fs ≡ false → first_call M p fs (Node k c d) ≡ None
no_call M p [] k c d e = refl
no_call M p (f ∷ fs) k c d e =
    ap (λ o. first_of (call_by p f o) (first_call M (suc p) fs (Node k c d))) (no_instance M f k c d (left (begins k f) (list_any (begins k) fs) e))
    ∙ no_call M (suc p) fs k c d (right (begins k f) (list_any (begins k) fs) e)
  where
    left : (a b : Bool) → (a || b) ≡ false → a ≡ false
    left true b i = absurd (cc)
    left false b i = refl

    right : (a b : Bool) → (a || b) ≡ false → b ≡ false
    right true b i = absurd (cc)
    right false b i = i
