-- In a typed file each `new` of an equivalence chooses from a fixed type, which is declared.
use Rattle.std.proofs.Common.{◌≡◌, ℕ, suc, Bool, true, false, cond, not, ◌||◌, List, [], ◌∷◌, flat_map, Contains, Option, Some, None, inl, inr, refl, sym, ap, subst, eqb-true, arith}
use Rattle.std.proofs.lemmas.Bool.{both_ways}
use Rattle.std.specs.List.{AllByRecursion}
use Rattle.cv_syntax_trees.specs.declared.class.Class.TheVariants as class
use Rattle.cv_syntax_trees.specs.declared.head.Head.TheVariants.{New}
use Rattle.cv_syntax_trees.specs.Declarations.{Declaration, Equiv, Named}
use Rattle.cv_syntax_trees.specs.Tree.{Tree, Empty, Node, first, second}
use Rattle.cv_syntax.specs.faults.Walk.{IsObeyed}
use Rattle.cv_meaning_laws.proofs.Listed.{Has}
use Rattle.cv_meaning_laws.specs.adequacy.Typed.{IsDeclared, OfType}
use Rattle.cv_meaning_laws.proofs.adequacy.Lists.{contains_has}
use Rattle.cv_meaning.specs.contexts.Groups.{Function, Left, Right, Which, functions_of}
use Rattle.cv_syntax_trees.specs.declared.sites.sort.Sort.{Sort}
use Rattle.cv_scope_rules.specs.declared.typing.fault.Fault.TheVariants.{Arity, IndexAsMessage, NotFixed, WrongType}
use Rattle.cv_scope_rules.specs.declared.typing.form.Form.TheVariants.{InBody}
use Rattle.cv_scope_rules.specs.typing.Parts.{AreTyped, IsTypedFile, IsTypedPart, Part, body_parts, declaration_parts, equivalence_parts, first_result, game_part, in_function, more_results, names_of, results, side_arrays, signature_of}
use Rattle.cv_scope_rules.specs.typing.Signature.{Above, Arrays, Signature, arity_by, declaration_of, fixed_by, is_arity, is_fixed_in, is_of, sort_by}
use Rattle.cv_syntax_trees.specs.sites.Counting.{count}
use Rattle.cv_scope_rules.specs.typing.Typing.{IsTyped, fault_of, site_differs}
use Rattle.cv_scope_rules.specs.typing.Wants.{Run, Want, above_second, is_index_sent, is_wrong, wants}
use Rattle.cv_context_files.proofs.right_forms.TypedFiles.{back_typed, front_typed}
use Rattle.cv_context_files.specs.tapes.Declared.{BodiesChooseFromDeclaredTypes, ChoosesFromDeclaredTypes}

-- a fixed type is declared

abbrev IsTypeOf : List Declaration → ℕ → Type 0
IsTypeOf ds T = (fixed large : Bool) × (arguments : Tree) × (result : Option ℕ) × Contains ds (Named T (class.TypeName fixed large) arguments result)

type_here : (T : ℕ) (d : Declaration) (ds : List Declaration) → is_of T d ≡ true → fixed_by (Some d) ≡ true → IsTypeOf (d ∷ ds) T
type_here T (Named y (class.TypeName fixed large) arguments result) ds e f =
    (fixed, large, arguments, result, (0, omega arith, ap (λ z. Named z (class.TypeName fixed large) arguments result) (sym (eqb-true T y e))))
type_here T d ds e f = absurd (both_ways false refl f)

type_later : (T : ℕ) (d : Declaration) (ds : List Declaration) → IsTypeOf ds T → IsTypeOf (d ∷ ds) T
type_later T d ds h = (h.0, h.1, h.2, h.3, (suc h.4.0, omega arith, h.4.2))

fixed_is_type : (ds : List Declaration) (T : ℕ) → is_fixed_in ds T ≡ true → IsTypeOf ds T
fixed_is_type [] T e = absurd (both_ways false refl e)
fixed_is_type (d ∷ ds) T e = go (is_of T d) refl e (fixed_is_type ds T)
  where
    go : (b : Bool) → is_of T d ≡ b → fixed_by (cond b (Some d) (declaration_of ds T)) ≡ true → (is_fixed_in ds T ≡ true → IsTypeOf ds T) → IsTypeOf (d ∷ ds) T
    go true f k more = type_here T d ds f k
    go false f k more = type_later T d ds (more k)

fixed_declared : (ds : List Declaration) (T : ℕ) → is_fixed_in ds T ≡ true → IsDeclared ds (OfType T)
fixed_declared ds T e = inr (fixed_is_type ds T e)

-- typed trees

fault_free : (wrong arity sent fixed : Bool) → cond wrong (Some WrongType) (cond arity (cond sent (Some IndexAsMessage) (cond (not fixed) (Some NotFixed) None)) (Some Arity)) ≡ None → fixed ≡ true
fault_free true arity sent fixed e = cc
fault_free false false sent fixed e = cc
fault_free false true true fixed e = cc
fault_free false true false true e = refl
fault_free false true false false e = cc

new_fixed : (e : Signature) (above : Above) (w : Want) (x T : ℕ) (a : Tree) → fault_of e above w (New x T) a ≡ None → is_fixed_in e.declarations T ≡ true
new_fixed e above w x T a h =
    let S = sort_by e above (New x T) a in
    fault_free (is_wrong w S || site_differs e.arrays (New x T) a) (is_arity (arity_by e above (New x T)) (count a)) (is_index_sent w S) (is_fixed_in e.declarations T) h

news_declared : (e : Signature) (above : Above) (w : Want) (t : Tree) → IsTyped e above w t → ChoosesFromDeclaredTypes e.declarations t
unfolding IsObeyed ChoosesFromDeclaredTypes
news_declared e above w Empty h = tt
news_declared e above w (Node (New x T) a b) h = (
  fixed_declared e.declarations T (new_fixed e above w x T a h.0),
  news_declared e above (wants e above w (New x T) a).0 a h.1,
  news_declared e (above_second w (New x T) a above) (wants e above w (New x T) a).1 b h.2,
)
news_declared e above w (Node k a b) h =
    (news_declared e above (wants e above w k a).0 a h.1, news_declared e (above_second w k a above) (wants e above w k a).1 b h.2)

-- the parts of a file

part_declared : (ds : List Declaration) (p : Part) → IsTypedPart ds p → ChoosesFromDeclaredTypes ds p.tree
part_declared ds p h = news_declared (signature_of ds p) p.above p.want p.tree h

typed_declaration : (ds es : List Declaration) (d : Declaration) → AreTyped ds (flat_map (declaration_parts ds) es) → Has es d → AreTyped ds (declaration_parts ds d)
typed_declaration ds [] d h k = absurd k
typed_declaration ds (c ∷ es) d h (inl e) = subst (λ z. AreTyped ds (declaration_parts ds z)) (sym e) (front_typed ds (declaration_parts ds c) _ h)
typed_declaration ds (c ∷ es) d h (inr k) = typed_declaration ds es d (back_typed ds (declaration_parts ds c) _ h) k

bodies_declared : (ds : List Declaration) (arrays : Arrays) (key : Tree) (Ss : List (Option Sort)) (functions : Tree) → AreTyped ds (body_parts arrays key Ss functions)
    → AllByRecursion (λ (f : Function). ChoosesFromDeclaredTypes ds f.body) (functions_of functions)
unfolding AreTyped body_parts
bodies_declared ds arrays key Ss Empty h = tt
bodies_declared ds arrays key Ss (Node k f more) h = (
  part_declared ds (record { arrays = in_function arrays f; above = names_of key (first f); want = Run (InBody (first_result Ss)); tree = second f }) h.0,
  bodies_declared ds arrays key (more_results Ss) more h.1,
)

-- the sorts of the results on the left
abbrev left_results : List Declaration → Tree → List (Option Sort)
left_results ds t = results (record { declarations = ds; arrays = side_arrays (first t) }) (first (first t)) (second (first t))

sides_declared : (ds : List Declaration) (t : Tree) → AreTyped ds (equivalence_parts ds t) → (which : Which) → BodiesChooseFromDeclaredTypes ds t which
sides_declared ds t h Left = bodies_declared ds (side_arrays (first t)) (first (first t)) [] (second (first t)) (front_typed ds (body_parts (side_arrays (first t)) (first (first t)) [] (second (first t))) _ h)
sides_declared ds t h Right =
    bodies_declared ds (side_arrays (second t)) (first (second t)) (left_results ds t) (second (second t)) (back_typed ds (body_parts (side_arrays (first t)) (first (first t)) [] (second (first t))) _ h)

pub bodies_choose_declared : (ds : List Declaration) (game : Tree) (name : ℕ) (equivalence : Tree) → IsTypedFile ds game → Contains ds (Equiv name equivalence) → (which : Which) → BodiesChooseFromDeclaredTypes ds equivalence which
bodies_choose_declared ds game name t h k which =
    sides_declared ds t (typed_declaration ds ds (Equiv name t) (front_typed ds (flat_map (declaration_parts ds) ds) (game_part game ∷ []) h) (contains_has ds (Equiv name t) k)) which
