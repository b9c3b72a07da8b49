-- The bodies of the functions of a side, and the declarations of a file, one by one.
use Rattle.std.proofs.Common.{◌≡◌, ℕ, zero, suc, ◌+◌, List, [], ◌∷◌, ◌++◌, drop, refl, ap, ap₂, sym, subst, ◌∙◌, arith, append_assoc, Option, Some, None, Result, Ok, Err, IfOk, IfErr, OnOk}
use Rattle.std.specs.Prelude.{slice_get}
use Rattle.cv_syntax_trees.specs.declared.head.Head.{Head}
use Rattle.cv_syntax_trees.specs.Declarations.{Declaration}
use Rattle.cv_syntax_trees.specs.Tree.{Tree, Empty, Node, first, second, size}
use Rattle.cv_scope_rules.specs.declared.typing.fault.Fault.{Fault}
use Rattle.cv_scope_rules.specs.declared.typing.fault.Fault.TheVariants as fault
use Rattle.cv_scope_rules.specs.declared.typing.fault.TypeFault.{TypeFault}
use Rattle.cv_scope_rules.specs.declared.typing.fault.TypeFault.TheVariants as refused
use Rattle.cv_scope_rules.specs.declared.typing.form.Form.TheVariants.{InBody}
use Rattle.cv_syntax_trees.specs.declared.sites.sort.Sort.{Sort}
use Rattle.cv_scope_rules.specs.typing.Parts.{Part, signature_of, first_in, body_parts, first_result, in_function, more_results, names_of, results}
use Rattle.cv_scope_rules.specs.typing.Refusals.{IsChecked, IsRefusalOf, parts_size}
use Rattle.cv_scope_rules.specs.typing.Signature.{Above, Arrays, OfGame, OfNothing, OfSide, Signature, sort_of}
use Rattle.cv_syntax_trees.specs.sites.Sites.{first_of}
use Rattle.cv_scope_rules.specs.typing.Typing.{first_fault}
use Rattle.cv_scope_rules.specs.typing.Wants.{Run}
use Rattle.cv_typing.proofs.Files.{part_refused, part_step, parts_end}
use Rattle.cv_scope_rules.proofs.typing.Steps.{refused_as}

-- one part alone is checked
pub walk_checked : (ds : List Declaration) (p : ℕ) (part : Part) (m : Option (ℕ × Fault)) (r : Result ℕ TypeFault) → m ≡ first_fault (signature_of ds part) part.above part.want p part.tree → OnOk r (m ≡ None) → IfOk r (λ n. n ≡ p + size part.tree) → IfErr r (IsRefusalOf m) → IsChecked ds p (part ∷ []) r
walk_checked ds p part m (Ok n) e t s f = (part_step ds p part [] (sym e ∙ t) ∙ parts_end ds (p + size part.tree), let g : n ≡ p + size part.tree = s in omega arith)
walk_checked ds p part m (Err x) e t s f = part_refused ds p part [] m x e f

-- parts before others

pub first_append : (ds : List Declaration) (p : ℕ) (xs ys : List Part) → first_in ds p (xs ++ ys) ≡ first_of (first_in ds p xs) (first_in ds (p + parts_size xs) ys)
unfolding first_in
first_append ds p [] ys = let e : p ≡ p + 0 = omega arith in ap (λ n. first_in ds n ys) e
first_append ds p (x ∷ xs) ys =
    let e : p + size x.tree + parts_size xs ≡ p + (size x.tree + parts_size xs) = omega arith in
    ap (first_of (first_fault (signature_of ds x) x.above x.want p x.tree)) (first_append ds (p + size x.tree) xs ys ∙ ap (λ n. first_of (first_in ds (p + size x.tree) xs) (first_in ds n ys)) e)
    ∙ sym (assoc (first_fault (signature_of ds x) x.above x.want p x.tree) (first_in ds (p + size x.tree) xs) (first_in ds (p + (size x.tree + parts_size xs)) ys))
  where
    assoc : (a b c : Option (ℕ × Fault)) → first_of (first_of a b) c ≡ first_of a (first_of b c)
    assoc None b c = refl
    assoc (Some y) b c = refl

pub size_append : (xs ys : List Part) → parts_size (xs ++ ys) ≡ parts_size xs + parts_size ys
size_append [] ys = omega arith
size_append (x ∷ xs) ys = let e = size_append xs ys in omega arith

-- behind parts that are typed
pub behind_typed : (ds : List Declaration) (p n : ℕ) (xs ys : List Part) → first_in ds p xs ≡ None → n ≡ p + parts_size xs → first_in ds p (xs ++ ys) ≡ first_in ds n ys
behind_typed ds p n xs ys e f = first_append ds p xs ys ∙ (ap (λ o. first_of o (first_in ds (p + parts_size xs) ys)) e ∙ ap (λ k. first_in ds k ys) (sym f))

first_some : (a b : Option (ℕ × Fault)) (x : ℕ × Fault) → a ≡ Some x → first_of a b ≡ Some x
first_some (Some y) b x e = e
first_some None b x e = absurd (cc)

refused_first : (a b : Option (ℕ × Fault)) (t : TypeFault) → IsRefusalOf a t → IsRefusalOf (first_of a b) t
refused_first a b (refused.WrongType q) i = first_some a b (q, fault.WrongType) i
refused_first a b (refused.Arity q) i = first_some a b (q, fault.Arity) i
refused_first a b (refused.IndexAsMessage q) i = first_some a b (q, fault.IndexAsMessage) i
refused_first a b (refused.NotFixed q) i = first_some a b (q, fault.NotFixed) i
refused_first a b refused.OutOfMemory i = tt

-- the fault of the front parts is refused
pub refused_before : (ds : List Declaration) (p : ℕ) (xs ys : List Part) (total : Option (ℕ × Fault)) (t : TypeFault) → first_in ds p (xs ++ ys) ≡ total → IsRefusalOf (first_in ds p xs) t → IsRefusalOf total t
refused_before ds p xs ys total t e i = subst (λ (m : Option (ℕ × Fault)). IsRefusalOf m t) (sym (first_append ds p xs ys) ∙ e) (refused_first (first_in ds p xs) (first_in ds (p + parts_size xs) ys) t i)

-- parts behind parts that are typed
pub then_checked : (ds : List Declaration) (p n : ℕ) (xs ys : List Part) (r : Result ℕ TypeFault) → first_in ds p xs ≡ None → n ≡ p + parts_size xs → IsChecked ds n ys r → IsChecked ds p (xs ++ ys) r
then_checked ds p n xs ys (Ok k) e f h = (behind_typed ds p n xs ys e f ∙ h.0, let s = size_append xs ys in let g : k ≡ n + parts_size ys = h.1 in omega arith)
then_checked ds p n xs ys (Err t) e f h = refused_as _ _ t (sym (behind_typed ds p n xs ys e f)) h

-- functions
pub results_step : (e : Signature) (key t : Tree) (h : Head) (f more : Tree) → t ≡ Node h f more → results e key t ≡ sort_of e (names_of key (first f)) (second f) ∷ results e key more
unfolding results
results_step e key t h f more x = ap (results e key) x

pub results_end : (e : Signature) (key t : Tree) → t ≡ Empty → results e key t ≡ []
unfolding results
results_end e key t x = ap (results e key) x

pub results_push : (e : Signature) (key t : Tree) (h : Head) (f more : Tree) (xs ys zs : List (Option Sort)) (S : Option Sort) → t ≡ Node h f more → ys ≡ xs ++ S ∷ [] → S ≡ sort_of e (names_of key (first f)) (second f) → xs ++ results e key t ≡ zs → ys ++ results e key more ≡ zs
results_push e key t h f more xs ys zs S x y s z =
    ap (λ l. l ++ results e key more) (y ∙ ap (λ R. xs ++ R ∷ []) s)
    ∙ (append_assoc xs (sort_of e (names_of key (first f)) (second f) ∷ []) (results e key more)
    ∙ (ap (λ l. xs ++ l) (sym (results_step e key t h f more x)) ∙ z))

abbrev pub function_part : Arrays → Tree → List (Option Sort) → Tree → Part
function_part r key Ss f = record { arrays = in_function r f; above = names_of key (first f); want = Run (InBody (first_result Ss)); tree = second f }

pub bodies_step : (r : Arrays) (key : Tree) (Ss : List (Option Sort)) (t : Tree) (h : Head) (f more : Tree) → t ≡ Node h f more → body_parts r key Ss t ≡ function_part r key Ss f ∷ body_parts r key (more_results Ss) more
unfolding body_parts
bodies_step r key Ss t h f more e = ap (body_parts r key Ss) e

pub bodies_end : (r : Arrays) (key : Tree) (Ss : List (Option Sort)) (t : Tree) → t ≡ Empty → body_parts r key Ss t ≡ []
unfolding body_parts
bodies_end r key Ss t e = ap (body_parts r key Ss) e

pub more_drop : (k : ℕ) (Ss : List (Option Sort)) → more_results (drop k Ss) ≡ drop (k + 1) Ss
more_drop zero [] = refl
more_drop zero (S ∷ Ss) = refl
more_drop (suc k) [] = let e : suc k + 1 ≡ suc (k + 1) = omega arith in sym (ap (λ n. drop n []) e)
more_drop (suc k) (S ∷ Ss) = let e : suc k + 1 ≡ suc (k + 1) = omega arith in more_drop k Ss ∙ sym (ap (λ n. drop n (S ∷ Ss)) e)

-- a body that is typed, with what is known of it
pub bodies_next : (ds : List Declaration) (p q : ℕ) (r : Arrays) (key : Tree) (k : ℕ) (Ss : List (Option Sort)) (t : Tree) (h : Head) (f more : Tree) (m total : Option (ℕ × Fault)) → t ≡ Node h f more → m ≡ first_fault (signature_of ds (function_part r key (drop k Ss) f)) (names_of key (first f)) (Run (InBody (first_result (drop k Ss)))) p (second f) → m ≡ None → q ≡ p + size (second f) → first_in ds p (body_parts r key (drop k Ss) t) ≡ total → first_in ds q (body_parts r key (drop (k + 1) Ss) more) ≡ total
bodies_next ds p q r key k Ss t h f more m total e g n s i =
    ap₂ (λ j l. first_in ds j (body_parts r key l more)) s (sym (more_drop k Ss))
    ∙ (sym (ap (first_in ds p) (bodies_step r key (drop k Ss) t h f more e) ∙ part_step ds p (function_part r key (drop k Ss) f) (body_parts r key (more_results (drop k Ss)) more) (sym g ∙ n)) ∙ i)

pub bodies_refused : (ds : List Declaration) (p : ℕ) (r : Arrays) (key : Tree) (Ss : List (Option Sort)) (t : Tree) (h : Head) (f more : Tree) (m total : Option (ℕ × Fault)) (x : TypeFault) → t ≡ Node h f more → m ≡ first_fault (signature_of ds (function_part r key Ss f)) (names_of key (first f)) (Run (InBody (first_result Ss))) p (second f) → first_in ds p (body_parts r key Ss t) ≡ total → IsRefusalOf m x → IsRefusalOf total x
bodies_refused ds p r key Ss t h f more m total x e g i j =
    refused_as _ _ x (sym (ap (first_in ds p) (bodies_step r key Ss t h f more e)) ∙ i) (part_refused ds p (function_part r key Ss f) (body_parts r key (more_results Ss) more) m x g j)

pub bodies_size : (r : Arrays) (key : Tree) (k : ℕ) (Ss : List (Option Sort)) (t : Tree) (h : Head) (f more : Tree) → t ≡ Node h f more → parts_size (body_parts r key (drop k Ss) t) ≡ size (second f) + parts_size (body_parts r key (drop (k + 1) Ss) more)
bodies_size r key k Ss t h f more e = ap parts_size (bodies_step r key (drop k Ss) t h f more e) ∙ ap (λ l. size (second f) + parts_size (body_parts r key l more)) (more_drop k Ss)

-- the walk over a part, by its tree
pub checked_at : (ds : List Declaration) (p : ℕ) (part : Part) (m : Option (ℕ × Fault)) (t : Tree) (r : Result ℕ TypeFault) → m ≡ first_fault (signature_of ds part) part.above part.want p part.tree → t ≡ part.tree → OnOk r (m ≡ None) → IfOk r (λ n. n ≡ p + size t) → IfErr r (IsRefusalOf m) → IsChecked ds p (part ∷ []) r
checked_at ds p part m t r e f g s i = walk_checked ds p part m r e g (subst (λ (u : Tree). IfOk r (λ n. n ≡ p + size u)) f s) i

pub named_checked : (ds : List Declaration) (p : ℕ) (parts : List Part) → parts ≡ [] → (first_in ds p parts ≡ None) × (p ≡ p + parts_size parts)
named_checked ds p parts e = (ap (first_in ds p) e ∙ parts_end ds p, let s = ap parts_size e in omega arith)

pub results_start : (e : Signature) (key t : Tree) (xs : List (Option Sort)) → xs ≡ [] → xs ++ results e key t ≡ results e key t
results_start e key t xs x = ap (λ l. l ++ results e key t) x

append_nothing : {A : Type 0} (xs : List A) → xs ++ [] ≡ xs
append_nothing [] = refl
append_nothing (x ∷ xs) = ap (λ l. x ∷ l) (append_nothing xs)

pub results_whole : (e : Signature) (key t : Tree) (xs zs : List (Option Sort)) → t ≡ Empty → xs ++ results e key t ≡ zs → xs ≡ zs
results_whole e key t xs zs x h = sym (ap (λ l. xs ++ l) (results_end e key t x) ∙ append_nothing xs) ∙ h

pub body_same : (d e : Signature) (p : ℕ) (f g : Above) (S R : Option Sort) (t u : Tree) → d ≡ e → f ≡ g → S ≡ R → t ≡ u → first_fault d f (Run (InBody S)) p t ≡ first_fault e g (Run (InBody R)) p u
body_same d e p f g S R t u z a b c =
    ap₂ (λ (s : Signature) (x : Above). first_fault s x (Run (InBody S)) p t) z a ∙ (ap (λ (x : Option Sort). first_fault e g (Run (InBody x)) p t) b ∙ ap (λ (x : Tree). first_fault e g (Run (InBody R)) p x) c)

-- behind the last part
pub all_checked : (ds : List Declaration) (p n : ℕ) (rest parts : List Part) → rest ≡ [] → first_in ds n rest ≡ first_in ds p parts → n + parts_size rest ≡ p + parts_size parts → (first_in ds p parts ≡ None) × (n ≡ p + parts_size parts)
all_checked ds p n rest parts e f s = (sym f ∙ (ap (first_in ds n) e ∙ parts_end ds n), let z = ap parts_size e in omega arith)

-- from the body of one function to that of another
pub in_another : (r : Arrays) (f g : Tree) → in_function (in_function r f) g ≡ in_function r g
in_another (OfGame s) f g = refl
in_another (OfSide by_bound own) f g = refl
in_another OfNothing f g = refl

pub with_arrays : (ds : List Declaration) (r s t : Arrays) (f : Tree) → r ≡ in_function s f → in_function s f ≡ in_function t f → (let e : Signature = record { declarations = ds; arrays = r } in e) ≡ record { declarations = ds; arrays = in_function t f }
with_arrays ds r s t f a b = ap (λ (x : Arrays). let e : Signature = record { declarations = ds; arrays = x } in e) (a ∙ b)
