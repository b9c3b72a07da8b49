-- Parts in any order: for each name the same row is found, as long as no two parts have one name.
use Rattle.std.proofs.Common.{◌≡◌, ◌∙◌, ◌&&◌, All, Bool, true, false, cond, Contains, List, [], ◌∷◌, map, find, flat_map, not, Option, Some, ap, refl, subst, sym, true≢false}
use Rattle.std.proofs.lemmas.List.Elements.{All-append, All-cons, All-contains, All-head, All-map, All-nil, All-tail, All-weaker}
use Rattle.std.proofs.lemmas.Slice.Eq.{bytes_eq-Decides}
use Rattle.std.specs.List.{list_all}
use Rattle.std.specs.Str.{bytes_eq}
use Rattle.clap.specs.Walk.{Row}
use Rattle.clap.proofs.SimpleLemmas.{is_false}
use Rattle.clap.proofs.WalkLemmas.{both}
use Rattle.cv_outside.specs.words.Forms.{Part, Text, orders, placed}

-- a part, and the row that `clap` gives for it
pub record Use : Type 0 where
  pub words : Part
  pub row : Row

abbrev pub parts_of : List Use → List Part
parts_of us = map (λ u. u.words) us

abbrev pub rows_by : List Use → List Row
rows_by us = map (λ u. u.row) us

abbrev pub row_with : Text → List Row → Option Row
row_with id rows = find (λ r. bytes_eq r.id id) rows

-- a fact of each use
abbrev pub Every : (Use → Type 0) → List Use → Type 0
Every P [] = Unit {0}
Every P (u ∷ us) = P u × Every P us

-- no two uses have one name

abbrev Differs : Use → Use → Type 0
Differs u v = (bytes_eq u.row.id v.row.id ≡ false) × (bytes_eq v.row.id u.row.id ≡ false)

abbrev pub Apart : List Use → Type 0
Apart [] = Unit {0}
Apart (u ∷ us) = Every (Differs u) us × Apart us

abbrev pub are_apart : List Use → Bool
are_apart [] = true
are_apart (u ∷ us) = list_all (λ v. not (bytes_eq u.row.id v.row.id) && not (bytes_eq v.row.id u.row.id)) us && are_apart us

differ : (u : Use) (us : List Use) → list_all (λ v. not (bytes_eq u.row.id v.row.id) && not (bytes_eq v.row.id u.row.id)) us ≡ true → Every (Differs u) us
differ u [] t = tt
differ u (v ∷ us) t =
    let each = both _ _ t in
    let two = both _ _ each.0 in
    ((is_false _ two.0, is_false _ two.1), differ u us each.1)

pub apart : (us : List Use) → are_apart us ≡ true → Apart us
apart [] t = tt
apart (u ∷ us) t = let each = both _ _ t in (differ u us each.0, apart us each.1)

-- a use somewhere among others, and uses in another order

pub data Placed (u : Use) : List Use → List Use → Type 0 where
  here : (us : List Use) → Placed u us (u ∷ us)
  later : (v : Use) (us ws : List Use) → Placed u us ws → Placed u (v ∷ us) (v ∷ ws)

pub data Rearranged : List Use → List Use → Type 0 where
  none : Rearranged [] []
  more : (u : Use) (us vs ws : List Use) → Rearranged us vs → Placed u vs ws → Rearranged (u ∷ us) ws

every_placed : (P : Use → Type 0) (u : Use) (us ws : List Use) → Placed u us ws → Every P (u ∷ us) → Every P ws
every_placed P u _ _ (here us) h = h
every_placed P u _ _ (later v us ws p) h = (h.1.0, every_placed P u us ws p (h.0, h.1.1))

pub every_arranged : (P : Use → Type 0) (us vs : List Use) → Rearranged us vs → Every P us → Every P vs
every_arranged P _ _ none h = h
every_arranged P _ _ (more u us vs ws r p) h = every_placed P u vs ws p (h.0, every_arranged P us vs r h.1)

apart_placed : (u : Use) (us ws : List Use) → Placed u us ws → Apart (u ∷ us) → Apart ws
apart_placed u _ _ (here us) a = a
apart_placed u _ _ (later v us ws p) a = (every_placed (Differs v) u us ws p ((a.0.0.1, a.0.0.0), a.1.0), apart_placed u us ws p (a.0.1, a.1.1))

pub apart_arranged : (us vs : List Use) → Rearranged us vs → Apart us → Apart vs
apart_arranged _ _ none a = a
apart_arranged _ _ (more u us vs ws r p) a = apart_placed u vs ws p (every_arranged (Differs u) us vs r a.0, apart_arranged us vs r a.1)

exchange : {X : Type 0} (a b : Bool) (x y z : X) → (a ≡ true → b ≡ true → ⊥) → cond a x (cond b y z) ≡ cond b y (cond a x z)
exchange true true x y z n = absurd (n refl refl)
exchange true false x y z n = refl
exchange false b x y z n = refl

one_name : (u v : Use) (id : Text) → Differs u v → bytes_eq v.row.id id ≡ true → bytes_eq u.row.id id ≡ true → ⊥
one_name u v id d e f =
    let same : u.row.id ≡ v.row.id = (bytes_eq-Decides u.row.id id).0 f ∙ sym ((bytes_eq-Decides v.row.id id).0 e) in
    true≢false (sym ((bytes_eq-Decides u.row.id v.row.id).1 same) ∙ d.0)

found_placed : (id : Text) (u : Use) (us ws : List Use) → Placed u us ws → Apart (u ∷ us) → row_with id (rows_by ws) ≡ row_with id (rows_by (u ∷ us))
found_placed id u _ _ (here us) a = refl
found_placed id u _ _ (later v us ws p) a =
    ap (λ o. cond (bytes_eq v.row.id id) (Some v.row) o) (found_placed id u us ws p (a.0.1, a.1.1))
    ∙ exchange (bytes_eq v.row.id id) (bytes_eq u.row.id id) (Some v.row) (Some u.row) (row_with id (rows_by us)) (one_name u v id a.0.0)

pub found_arranged : (id : Text) (us vs : List Use) → Rearranged us vs → Apart us → row_with id (rows_by vs) ≡ row_with id (rows_by us)
found_arranged id _ _ none a = refl
found_arranged id _ _ (more u us vs ws r p) a =
    found_placed id u vs ws p (every_arranged (Differs u) us vs r a.0, apart_arranged us vs r a.1)
    ∙ ap (λ o. cond (bytes_eq u.row.id id) (Some u.row) o) (found_arranged id us vs r a.1)

-- the orders of parts are those of their uses

abbrev Puts : Use → List Use → List Part → Type 0
Puts u us parts = (ws : List Use) × (parts_of ws ≡ parts) × Placed u us ws

abbrev pub Arranges : List Use → List Part → Type 0
Arranges us parts = (vs : List Use) × (parts_of vs ≡ parts) × Rearranged us vs

puts : (u : Use) (us : List Use) → All (Puts u us) (placed u.words (parts_of us))
puts u [] = All-cons (Puts u []) (u.words ∷ []) [] (u ∷ [], refl, here []) (All-nil (Puts u []))
puts u (v ∷ us) =
    All-cons (Puts u (v ∷ us)) (parts_of (u ∷ v ∷ us)) (map (λ rs. v.words ∷ rs) (placed u.words (parts_of us))) (u ∷ v ∷ us, refl, here (v ∷ us))
    (All-map (Puts u (v ∷ us)) (λ rs. v.words ∷ rs) (placed u.words (parts_of us))
    (All-weaker (Puts u us) (λ rs. Puts u (v ∷ us) (v.words ∷ rs)) (λ rs h. (v ∷ h.0, ap (λ ps. v.words ∷ ps) h.1, later v us h.0 h.2)) (placed u.words (parts_of us)) (puts u us)))

all_flat : (Q : List Part → Type 0) (f : List Part → List (List Part)) (xs : List (List Part)) → All (λ x. All Q (f x)) xs → All Q (flat_map f xs)
all_flat Q f [] h = All-nil Q
all_flat Q f (x ∷ xs) h = All-append Q (f x) (flat_map f xs) (All-head (λ x. All Q (f x)) x xs h) (all_flat Q f xs (All-tail (λ x. All Q (f x)) x xs h))

arranges : (us : List Use) → All (Arranges us) (orders (parts_of us))
arranges [] = All-cons (Arranges []) [] [] ([], refl, none) (All-nil (Arranges []))
arranges (u ∷ us) =
    all_flat (Arranges (u ∷ us)) (placed u.words) (orders (parts_of us))
    (All-weaker (Arranges us) (λ qs. All (Arranges (u ∷ us)) (placed u.words qs))
    (λ qs h. subst (λ ps. All (Arranges (u ∷ us)) (placed u.words ps)) h.1
    (All-weaker (Puts u h.0) (Arranges (u ∷ us)) (λ rs g. (g.0, g.1, more u us h.0 g.0 h.2 g.2)) (placed u.words (parts_of h.0)) (puts u h.0)))
    (orders (parts_of us)) (arranges us))

pub arranged : (us : List Use) (parts : List Part) → Contains (orders (parts_of us)) parts → Arranges us parts
arranged us parts c = All-contains (Arranges us) (orders (parts_of us)) parts (arranges us) c
