-- The answer of a left function has the value of the instance, and leaves the arrays of its names behind.
use Rattle.std.proofs.Common.{◌≡◌, ℕ, true, false, ◌||◌, List, [], ◌∷◌, ◌++◌, map, Some, refl, sym, ap, subst, ◌∙◌}
use mathlib.Core.List.{reverse_aux}
use Rattle.std.proofs.lemmas.Bool.{both_ways}
use Rattle.cv_syntax_trees.specs.declared.head.Head.TheVariants.{Leaf, Read, Apply, Eq, And, Or, Not, Yes, No}
use Rattle.cv_syntax_trees.specs.Declarations.{Declaration}
use Rattle.cv_syntax.specs.NameSets.{is_one_of}
use Rattle.cv_syntax_trees.specs.Tree.{Tree, Node, chain, reads_only}
use Rattle.cv_meaning.specs.Interpretation.{Setting}
use Rattle.cv_meaning.specs.Memory.{Indices, Store}
use Rattle.cv_meaning.specs.Side.{Arrays, OracleCall}
use Rattle.cv_meaning.specs.Tapes.{Tape}
use Rattle.cv_meaning.specs.Terms.{value, values}
use Rattle.cv_meaning.specs.contexts.Groups.{Function}
use Rattle.cv_meaning.specs.contexts.Frames.{Frame, IsValue}
use Rattle.cv_meaning.specs.contexts.BodyTerms.{body_value}
use Rattle.cv_meaning.specs.contexts.Finds.{Oracles}
use Rattle.cv_meaning.specs.contexts.Bodies.{begun, body_answer, function_answer, function_called, reply, with_arguments, with_coins}
use Rattle.cv_scope_rules.specs.Phrases.{Term, is_phrase}
use Rattle.cv_scope_rules.specs.Phrases.{HasConstantsOf}
use Rattle.cv_scene.specs.Instances.{Instance, filled, names_of, terms_of}
use Rattle.cv_scene.specs.LeftTerms.{IsLeftFunction}
use Rattle.cv_scene.specs.Standing.{AreAsMany, AreDrawn, HasNoConstant, HasValuesOf}
use Rattle.cv_match_laws.proofs.values.Values.{Stand, filled_value}

module _ (g : Setting) (at : Indices) (m : Store) (t : Tape) where
  names_from : List (ℕ × ℕ) → List ℕ
  names_from xs = map (λ (x : ℕ × ℕ). x.0) xs

  arguments_stand : (xs : List (ℕ × ℕ)) (ms : List Tree) (A : List ℕ) (B : List Tree) (e : Frame) → AreAsMany xs ms → Stand g at m A (chain B) e.names
      → Stand g at m (reverse_aux (map (λ (x : ℕ × ℕ). x.0) xs) A) (chain (reverse_aux ms B)) (with_arguments e xs (values g at m (chain ms))).names
  unfolding value
  arguments_stand [] [] A B e n s = s
  arguments_stand (x ∷ xs) (a ∷ ms) A B e n s = arguments_stand xs ms (x.0 ∷ A) (a ∷ B) _ n (refl, refl, s)
  arguments_stand [] (a ∷ ms) A B e n s = absurd n
  arguments_stand (x ∷ xs) [] A B e n s = absurd n

  all_stand : (zs xs : List (ℕ × ℕ)) (cs ms : List Tree) (A : List ℕ) (B : List Tree) (e : Frame) → AreDrawn g at m t e.number zs cs → AreAsMany xs ms → Stand g at m A (chain B) e.names
      → Stand g at m (reverse_aux (map (λ (x : ℕ × ℕ). x.0) (zs ++ xs)) A) (chain (reverse_aux (cs ++ ms) B)) (with_arguments (with_coins t e zs) xs (values g at m (chain ms))).names
  all_stand [] xs [] ms A B e d n s = arguments_stand xs ms A B e n s
  all_stand (z ∷ zs) xs (c ∷ cs) ms A B e d n s = all_stand zs xs cs ms (z.0 ∷ A) (c ∷ B) _ d.1 n (refl, ap IsValue (sym d.0), s)
  all_stand [] xs (c ∷ cs) ms A B e d n s = absurd d
  all_stand (z ∷ zs) xs [] ms A B e d n s = absurd d

-- a term is a body's result
term_answer : (o : Oracles) (t : Tape) (e : Frame) (p : ℕ) (b : Tree) → is_phrase Term b ≡ true → (body_answer o t e p b).value ≡ body_value o.setting e b
unfolding is_phrase body_answer
term_answer o t e p (Node (Leaf x) a b) w = refl
term_answer o t e p (Node (Read x) a b) w = refl
term_answer o t e p (Node (Apply f) a b) w = refl
term_answer o t e p (Node Eq a b) w = refl
term_answer o t e p (Node And a b) w = refl
term_answer o t e p (Node Or a b) w = refl
term_answer o t e p (Node Not a b) w = refl
term_answer o t e p (Node Yes a b) w = refl
term_answer o t e p (Node No a b) w = refl
term_answer o t e p b w = absurd (both_ways false refl w)

pub answered : (ds : List Declaration) (o : Oracles) (f : Function) (I : Instance) (at : Indices) (m : Store) (t : Tape) (arrays : Arrays) (call : OracleCall) → HasConstantsOf ds o.setting → HasNoConstant o.setting at → IsLeftFunction ds o.group f
    → function_called o call.number ≡ Some f → HasValuesOf o.setting at m t f I call → (reply o t arrays call).value ≡ value o.setting at m (filled o.group f I)
unfolding reply
answered ds o f I at m t arrays call constants free left e h =
    ap (λ r. (function_answer o t arrays call r).value) e
    ∙ ap (λ vs. (body_answer o t (with_arguments (with_coins t (begun t o.group.key arrays call) f.coins) f.arguments vs) 0 f.body).value) (sym h.arguments)
    ∙ term_answer o t (frame (values o.setting at m (chain I.arguments))) 0 f.body left.term
    ∙ sym (filled_value o.setting at m (frame (values o.setting at m (chain I.arguments))) (names_of o.group f) (terms_of I) stands free f.body left.term (subst (λ c. reads_only (λ x. is_one_of (names_of o.group f) x || c x) f.body ≡ true) (sym constants) left.bound) left.plain)
  where
    frame : List ℕ → Frame
    frame vs = with_arguments (with_coins t (begun t o.group.key arrays call) f.coins) f.arguments vs

    stands : Stand o.setting at m (names_of o.group f) (terms_of I) (frame (values o.setting at m (chain I.arguments))).names
    stands = all_stand o.setting at m t f.coins f.arguments I.coins I.arguments (o.group.key.0 ∷ []) (I.key ∷ []) (begun t o.group.key arrays call) h.coins h.many (refl, ap IsValue (sym h.key), tt)
