-- The sides of an equivalence, and the declarations of a file.
use Rattle.std.proofs.Common.{◌≡◌, ℕ, zero, suc, ◌+◌, List, [], ◌∷◌, ◌++◌, drop, length, map, refl, ap, ap₂, sym, subst, ◌∙◌, arith, append_assoc, Option, Some, None, Result, Ok, Err, IfErr, OnOk}
use Rattle.std.specs.Prelude.{All, flat_map, slice_get}
use Rattle.std.proofs.lemmas.List.Elements.{All-head, All-tail}
use Rattle.cv_directory.specs.Live.{IsLive}
use Rattle.cv_syntax.specs.declared.decls.Decl.{Decl}
use Rattle.cv_syntax_trees.specs.declared.head.Head.{Head}
use Rattle.cv_syntax_trees.specs.Declarations.{Declaration}
use Rattle.cv_syntax.specs.Declarations.{declared, declarations}
use Rattle.cv_syntax_trees.specs.Tree.{Tree, Node, first, second}
use Rattle.cv_pool.specs.KindTree.{KindTree}
use Rattle.cv_scope_rules.specs.declared.typing.fault.Fault.{Fault}
use Rattle.cv_scope_rules.specs.declared.typing.fault.TypeFault.{TypeFault}
use Rattle.cv_syntax_trees.specs.declared.sites.sort.Sort.{Sort}
use Rattle.cv_scope_rules.specs.typing.Parts.{Part, AreTyped, first_in, body_parts, declaration_parts, equivalence_parts, file_parts, game_part, results, side_arrays}
use Rattle.cv_scope_rules.specs.typing.Refusals.{IsChecked, IsRefusalOf}
use Rattle.cv_scope_rules.specs.typing.Signature.{Arrays}
use Rattle.cv_scope_rules.proofs.typing.First.{parts_typed_where_none}
use Rattle.cv_typing.proofs.Parameters.{drop_none, drop_some}

-- the two sides of an equivalence

bodies_same : (l r : Arrays) (key k : Tree) (Ss Rs : List (Option Sort)) (fs gs : Tree) → l ≡ r → key ≡ k → Ss ≡ Rs → fs ≡ gs → body_parts l key Ss fs ≡ body_parts r k Rs gs
bodies_same l r key k Ss Rs fs gs a b c d =
    ap₂ (λ (x : Arrays) (y : Tree). body_parts x y Ss fs) a b ∙ ap₂ (λ (x : List (Option Sort)) (y : Tree). body_parts r k x y) c d

abbrev left_parts : Tree → List Part
left_parts t = body_parts (side_arrays (first t)) (first (first t)) [] (second (first t))

abbrev pub right_parts : List Declaration → Tree → List Part
right_parts ds t = body_parts (side_arrays (second t)) (first (second t)) (results (record { declarations = ds; arrays = side_arrays (first t) }) (first (first t)) (second (first t))) (second (second t))

left_same : (t a b : Tree) (h : Head) (l : Arrays) (key fs : Tree) (none : List (Option Sort)) → t ≡ Node h a b → l ≡ side_arrays a → key ≡ first a → fs ≡ second a → none ≡ [] → body_parts l key none fs ≡ left_parts t
left_same t a b h l key fs none e el ek ef en =
    let f = ap first e in
    bodies_same l (side_arrays (first t)) key (first (first t)) none [] fs (second (first t)) (el ∙ sym (ap side_arrays f)) (ek ∙ sym (ap first f)) en (ef ∙ sym (ap second f))

pub equivalence_left : (ds : List Declaration) (t a b : Tree) (h : Head) (l : Arrays) (key fs : Tree) (none : List (Option Sort)) → t ≡ Node h a b → l ≡ side_arrays a → key ≡ first a → fs ≡ second a → none ≡ [] → body_parts l key none fs ++ right_parts ds t ≡ equivalence_parts ds t
equivalence_left ds t a b h l key fs none e el ek ef en = ap (λ ps. ps ++ right_parts ds t) (left_same t a b h l key fs none e el ek ef en)

pub equivalence_whole : (ds : List Declaration) (t a b : Tree) (h : Head) (l r : Arrays) (key fs other others : Tree) (none sorts : List (Option Sort)) → t ≡ Node h a b → l ≡ side_arrays a → key ≡ first a → fs ≡ second a → none ≡ [] → r ≡ side_arrays b → other ≡ first b → others ≡ second b → sorts ≡ results (record { declarations = ds; arrays = l }) key fs → body_parts l key none fs ++ body_parts r other sorts others ≡ equivalence_parts ds t
equivalence_whole ds t a b h l r key fs other others none sorts e el ek ef en er eo es ez =
    let f = ap first e in
    let g = ap second e in
    let found = ez ∙ (ap₂ (λ (x : Arrays) (y : Tree). results (record { declarations = ds; arrays = x }) y fs) (el ∙ sym (ap side_arrays f)) (ek ∙ sym (ap first f)) ∙ ap (results (record { declarations = ds; arrays = side_arrays (first t) }) (first (first t))) (ef ∙ sym (ap second f))) in
    ap₂ (λ (x y : List Part). x ++ y)
    (left_same t a b h l key fs none e el ek ef en)
    (bodies_same r (side_arrays (second t)) other (first (second t)) sorts (results (record { declarations = ds; arrays = side_arrays (first t) }) (first (first t)) (second (first t))) others (second (second t)) (er ∙ sym (ap side_arrays g)) (eo ∙ sym (ap first g)) found (es ∙ sym (ap second g)))

pub checked_as : (ds : List Declaration) (p : ℕ) (xs ys : List Part) (r : Result ℕ TypeFault) → xs ≡ ys → IsChecked ds p xs r → IsChecked ds p ys r
checked_as ds p xs ys r e h = subst (λ (ps : List Part). IsChecked ds p ps r) e h

-- declarations

abbrev pub rest_parts : List KindTree → List Declaration → List Decl → ℕ → Tree → List Part
rest_parts trees ds list k game = flat_map (λ d. declaration_parts ds (declared trees d)) (drop k list) ++ game_part game ∷ []

flat_map_map : (trees : List KindTree) (ds : List Declaration) (list : List Decl) → flat_map (declaration_parts ds) (map (declared trees) list) ≡ flat_map (λ d. declaration_parts ds (declared trees d)) list
flat_map_map trees ds [] = refl
flat_map_map trees ds (d ∷ list) = ap (λ ps. declaration_parts ds (declared trees d) ++ ps) (flat_map_map trees ds list)

pub file_start : (trees : List KindTree) (list : List Decl) (game : Tree) → rest_parts trees (declarations trees list) list 0 game ≡ file_parts (declarations trees list) game
file_start trees list game = ap (λ ps. ps ++ game_part game ∷ []) (sym (flat_map_map trees (declarations trees list) list))

pub file_step : (trees : List KindTree) (ds : List Declaration) (list : List Decl) (k : ℕ) (game : Tree) (d : Decl) → slice_get list k ≡ Some d → rest_parts trees ds list k game ≡ declaration_parts ds (declared trees d) ++ rest_parts trees ds list (k + 1) game
file_step trees ds list k game d e =
    ap (λ l. flat_map (λ d. declaration_parts ds (declared trees d)) l ++ game_part game ∷ []) (drop_some list k d e)
    ∙ append_assoc (declaration_parts ds (declared trees d)) (flat_map (λ d. declaration_parts ds (declared trees d)) (drop (k + 1) list)) (game_part game ∷ [])

drop_more : {A : Type 0} (xs : List A) (k : ℕ) → slice_get xs k ≡ None → drop (k + 1) xs ≡ []
drop_more [] zero e = refl
drop_more [] (suc k) e = let f : suc k + 1 ≡ suc (k + 1) = omega arith in ap (λ n. drop n []) f
drop_more (x ∷ xs) zero e = absurd (cc)
drop_more (x ∷ xs) (suc k) e = let f : suc k + 1 ≡ suc (k + 1) = omega arith in ap (λ n. drop n (x ∷ xs)) f ∙ drop_more xs k e

drop_all : {A : Type 0} (xs : List A) (n : ℕ) → n ≡ length xs → drop n xs ≡ []
drop_all [] zero e = refl
drop_all [] (suc n) e = refl
drop_all (x ∷ xs) zero e = absurd (omega arith)
drop_all (x ∷ xs) (suc n) e = drop_all xs n (omega arith)

pub file_end : (trees : List KindTree) (ds : List Declaration) (list : List Decl) (k : ℕ) (game : Tree) → k ≡ length list → rest_parts trees ds list k game ≡ game_part game ∷ []
file_end trees ds list k game e = ap (λ l. flat_map (λ d. declaration_parts ds (declared trees d)) l ++ game_part game ∷ []) (drop_all list k e)

pub refused_as : (m total : Option (ℕ × Fault)) (r : Result (Unit {0}) TypeFault) → m ≡ total → IfErr r (IsRefusalOf m) → IfErr r (IsRefusalOf total)
refused_as m total r e h = subst (λ (x : Option (ℕ × Fault)). IfErr r (IsRefusalOf x)) e h

pub file_typed : {A : Type 0} (ds : List Declaration) (parts : List Part) (r : Result A TypeFault) → OnOk r (first_in ds 0 parts ≡ None) → OnOk r (AreTyped ds parts)
file_typed ds parts (Ok u) h = parts_typed_where_none ds 0 parts h
file_typed ds parts (Err t) h = h

pub live_at : (n : ℕ) (ds : List Decl) (k : ℕ) (d : Decl) → slice_get ds k ≡ Some d → All (IsLive n) ds → IsLive n d
live_at n [] k d e l = absurd (cc)
live_at n (x ∷ ds) zero d e l = let f : x ≡ d = cc in subst (IsLive n) f (All-head (IsLive n) x ds l)
live_at n (x ∷ ds) (suc k) d e l = live_at n ds k d e (All-tail (IsLive n) x ds l)
