-- The first draw for each thing, one by one.
use Rattle.std.proofs.Common.{◌≡◌, ℕ, ◌+◌, ◌<◌, Bool, true, false, ◌==◌, ◌&&◌, ◌||◌, not, if◌then◌else◌, List, [], ◌∷◌, ◌++◌, filter, map, take, get_or, length, inl, inr, refl, ap, ap₂, sym, ◌∙◌}
use Rattle.std.proofs.Math.Path.{fun_ext}
use Rattle.std.specs.List.{list_any}
use Rattle.std.specs.HashSet.{HashSet, contains, Updates}
use Rattle.std.proofs.lemmas.Bool.{eq-eqb, ne_eqb}
use Rattle.std.proofs.lemmas.Bool.Decides.{eqb_tells}
use Rattle.std.proofs.lemmas.List.{append_assoc, append-nil, map-append, take_more}
use Rattle.std.proofs.lemmas.List.Elements.{filter-append}
use Rattle.std.proofs.lemmas.List.Folds.{list_any-append}
use Rattle.cv_meaning.specs.contexts.Roles as roles
use Rattle.cv_meaning.specs.contexts.Roles.{Plain, Replication, Gone, TheKeyName}
use Rattle.cv_inline.specs.Draws as draws
use Rattle.cv_inline.specs.Draws.{each_role_once, same_role}
use Rattle.cv_inline_sites.specs.declared.listing.draws.Draw.{Draw}
use Rattle.cv_inline_sites.specs.declared.listing.draws.Role.{Role}
use Rattle.cv_inline_sites.specs.declared.listing.draws.Role.TheVariants.{Key, Variable, OfFind}
use Rattle.cv_inline_sites.specs.contracts.listing.draws.RolePartialEq.TheImpl.{ghosts}
use Rattle.cv_inline_sites.specs.listing.Listed.{draw_in, role_in}
use Rattle.cv_syntax_trees.proofs.lists.Tests.{equals_comm}

-- equality of roles

abbrev pub same_thing : Role → Role → Bool
same_thing a b = same_role (role_in a) (role_in b)

one_by_one : (a b : Role) → ghosts.eq a b ≡ same_thing a b
one_by_one Key Key = refl
one_by_one (Variable s v) (Variable r w) = refl
one_by_one (OfFind i) (OfFind j) = refl
one_by_one Key (Variable r w) = refl
one_by_one Key (OfFind j) = refl
one_by_one (Variable s v) Key = refl
one_by_one (Variable s v) (OfFind j) = refl
one_by_one (OfFind i) Key = refl
one_by_one (OfFind i) (Variable r w) = refl

eq_same : ghosts.eq ≡ same_thing
eq_same = fun_ext (λ a. fun_ext (λ b. one_by_one a b))

symmetric : (a b : roles.Role) → same_role a b ≡ same_role b a
symmetric TheKeyName TheKeyName = refl
symmetric (roles.Variable s v) (roles.Variable r w) = ap₂ ◌&&◌ (equals_comm s r) (equals_comm v w)
symmetric (roles.Index s q o b k) (roles.Index r p n c j) = ap₂ ◌&&◌ (equals_comm s r) (ap₂ ◌&&◌ (equals_comm q p) (ap₂ ◌&&◌ (equals_comm o n) (ap₂ ◌&&◌ (equals_comm b c) (equals_comm k j))))
symmetric Plain Plain = refl
symmetric Plain Replication = refl
symmetric Plain Gone = refl
symmetric Plain TheKeyName = refl
symmetric Plain (roles.Variable r w) = refl
symmetric Plain (roles.Index r p n c j) = refl
symmetric Replication Plain = refl
symmetric Replication Replication = refl
symmetric Replication Gone = refl
symmetric Replication TheKeyName = refl
symmetric Replication (roles.Variable r w) = refl
symmetric Replication (roles.Index r p n c j) = refl
symmetric Gone Plain = refl
symmetric Gone Replication = refl
symmetric Gone Gone = refl
symmetric Gone TheKeyName = refl
symmetric Gone (roles.Variable r w) = refl
symmetric Gone (roles.Index r p n c j) = refl
symmetric TheKeyName Plain = refl
symmetric TheKeyName Replication = refl
symmetric TheKeyName Gone = refl
symmetric TheKeyName (roles.Variable r w) = refl
symmetric TheKeyName (roles.Index r p n c j) = refl
symmetric (roles.Variable s v) Plain = refl
symmetric (roles.Variable s v) Replication = refl
symmetric (roles.Variable s v) Gone = refl
symmetric (roles.Variable s v) TheKeyName = refl
symmetric (roles.Variable s v) (roles.Index r p n c j) = refl
symmetric (roles.Index s q o b k) Plain = refl
symmetric (roles.Index s q o b k) Replication = refl
symmetric (roles.Index s q o b k) Gone = refl
symmetric (roles.Index s q o b k) TheKeyName = refl
symmetric (roles.Index s q o b k) (roles.Variable r w) = refl

-- one more draw

abbrev pub is_among : List draws.Draw → roles.Role → Bool
is_among ds r = list_any (λ (d : draws.Draw). same_role d.role r) ds

kept_or : (p : draws.Draw → Bool) (x : draws.Draw) (c a : Bool) → p x ≡ not c → filter p (if a then [] else x ∷ []) ≡ (if c || a then [] else x ∷ [])
kept_or p x true true e = refl
kept_or p x true false e = rw e refl
kept_or p x false true e = refl
kept_or p x false false e = rw e refl

once_push : (ds : List draws.Draw) (x : draws.Draw) → each_role_once (ds ++ x ∷ []) ≡ each_role_once ds ++ (if is_among ds x.role then [] else x ∷ [])
once_push [] x = refl
once_push (d ∷ ds) x =
    let p : draws.Draw → Bool = λ e. not (same_role e.role d.role) in
    ap (λ es. d ∷ filter p es) (once_push ds x)
    ∙ ap (λ es. d ∷ es) (filter-append p (each_role_once ds) (if is_among ds x.role then [] else x ∷ [])
    ∙ ap (λ es. filter p (each_role_once ds) ++ es) (kept_or p x (same_role d.role x.role) (is_among ds x.role) (ap not (symmetric x.role d.role))))

-- the draws that were gone over

abbrev pub first_ones : List Draw → ℕ → List draws.Draw
first_ones all i = map draw_in (take i all)

first_ones_more : (all : List Draw) (i : ℕ) (d : Draw) → i < length all → first_ones all (i + 1) ≡ first_ones all i ++ draw_in (get_or all i d) ∷ []
first_ones_more all i d h = ap (map draw_in) (take_more all i d h) ∙ map-append draw_in (take i all) (get_or all i d ∷ [])

-- where a draw is for a new thing, it is added; else it isn't
pub once_new : (before now : List draws.Draw) (all : List Draw) (i : ℕ) (d : Draw) → i < length all → is_among (first_ones all i) (role_in (get_or all i d).role) ≡ false →
    now ≡ before ++ each_role_once (first_ones all i) → now ++ draw_in (get_or all i d) ∷ [] ≡ before ++ each_role_once (first_ones all (i + 1))
once_new before now all i d h none so_far =
    let x = draw_in (get_or all i d) in
    ap (λ ds. ds ++ x ∷ []) so_far
    ∙ (append_assoc before (each_role_once (first_ones all i)) (x ∷ [])
    ∙ ap (λ ds. before ++ ds) (sym (ap each_role_once (first_ones_more all i d h) ∙ (once_push (first_ones all i) x ∙ ap (λ b. each_role_once (first_ones all i) ++ (if b then [] else x ∷ [])) none))))

pub once_old : (before now : List draws.Draw) (all : List Draw) (i : ℕ) (d : Draw) → i < length all → is_among (first_ones all i) (role_in (get_or all i d).role) ≡ true →
    now ≡ before ++ each_role_once (first_ones all i) → now ≡ before ++ each_role_once (first_ones all (i + 1))
once_old before now all i d h there so_far =
    let x = draw_in (get_or all i d) in
    so_far ∙ ap (λ ds. before ++ ds) (sym (ap each_role_once (first_ones_more all i d h) ∙ (once_push (first_ones all i) x ∙ (ap (λ b. each_role_once (first_ones all i) ++ (if b then [] else x ∷ [])) there ∙ append-nil (each_role_once (first_ones all i))))))

-- what was seen

or_flip : (a b : Bool) → (if a then true else b) ≡ (b || (a || false))
or_flip true true = refl
or_flip true false = refl
or_flip false true = refl
or_flip false false = refl

pub seen_more : {S : Type 0} (m n : HashSet Role S) (all : List Draw) (i : ℕ) (d : Draw) → i < length all → Updates ghosts.eq m n (get_or all i d).role true →
    ((q : Role) → contains ghosts.eq m q ≡ is_among (first_ones all i) (role_in q)) → (q : Role) → contains ghosts.eq n q ≡ is_among (first_ones all (i + 1)) (role_in q)
seen_more m n all i d h u so_far q =
    let r : Role = (get_or all i d).role in
    u.0 q
    ∙ (ap (λ (e : Role → Role → Bool). if e r q then true else contains ghosts.eq m q) eq_same
    ∙ (ap (λ b. if same_thing r q then true else b) (so_far q)
    ∙ (or_flip (same_thing r q) (is_among (first_ones all i) (role_in q))
    ∙ sym (ap (λ ds. is_among ds (role_in q)) (first_ones_more all i d h) ∙ list_any-append (λ (e : draws.Draw). same_role e.role (role_in q)) (first_ones all i) (draw_in (get_or all i d) ∷ [])))))

-- a step of the loop, whose draw was new, or not

told : (added had is : Bool) → added ≡ not had → had ≡ is → is ≡ not added
told added true is e f = sym (ap (λ b. not b) e ∙ f)
told added false is e f = sym (ap (λ b. not b) e ∙ f)

pub step_new : {S : Type 0} (m : HashSet Role S) (before : List draws.Draw) (now kept all : List Draw) (i : ℕ) (d : Draw) (added : Bool) → i < length all → added ≡ not (contains ghosts.eq m (get_or all i d).role) →
    ((q : Role) → contains ghosts.eq m q ≡ is_among (first_ones all i) (role_in q)) → map draw_in now ≡ before ++ each_role_once (first_ones all i) → added ≡ true → kept ≡ now ++ get_or all i d ∷ [] → map draw_in kept ≡ before ++ each_role_once (first_ones all (i + 1))
step_new m before now kept all i d added h was seen so_far new push =
    let r : Role = (get_or all i d).role in
    ap (map draw_in) push
    ∙ (map-append draw_in now (get_or all i d ∷ [])
    ∙ once_new before (map draw_in now) all i d h (told added (contains ghosts.eq m r) (is_among (first_ones all i) (role_in r)) was (seen r) ∙ ap (λ b. not b) new) so_far)

pub step_old : {S : Type 0} (m : HashSet Role S) (before : List draws.Draw) (now kept all : List Draw) (i : ℕ) (d : Draw) (added : Bool) → i < length all → added ≡ not (contains ghosts.eq m (get_or all i d).role) →
    ((q : Role) → contains ghosts.eq m q ≡ is_among (first_ones all i) (role_in q)) → map draw_in now ≡ before ++ each_role_once (first_ones all i) → added ≡ false → kept ≡ now → map draw_in kept ≡ before ++ each_role_once (first_ones all (i + 1))
step_old m before now kept all i d added h was seen so_far old same =
    let r : Role = (get_or all i d).role in
    ap (map draw_in) same
    ∙ once_old before (map draw_in now) all i d h (told added (contains ghosts.eq m r) (is_among (first_ones all i) (role_in r)) was (seen r) ∙ ap (λ b. not b) old) so_far
