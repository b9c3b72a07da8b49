-- The entries of a directory, as they are written.
use Rattle.std.proofs.Common.{◌≡◌, ℕ, zero, suc, ◌+◌, ◌<◌, min, Bool, true, false, cond, ◌||◌, List, [], ◌∷◌, ◌++◌, length, get_or, set, refl, ap, sym, ◌∙◌, eqb-true, eq-eqb, Option, Some, None, Result, Ok, Err, OnOk}
use Rattle.std.specs.declared.alloc.AllocError.{AllocError}
use Rattle.std.specs.Prelude.{◌==◌, option_map}
use Rattle.std.proofs.Math.Path.{fun_ext}
use Rattle.std.proofs.lemmas.List.{get_or_default, get_or-set_other, get_or-set_same}
use Rattle.cv_pool.specs.KindTree.{KindTree}
use Rattle.cv_directory.specs.declared.directory.Directory.{Directory}
use Rattle.cv_directory.specs.declared.site.Entry.{Entry}
use Rattle.cv_directory.specs.declared.site.Site.{Site}
use Rattle.cv_directory.specs.Definitions.{Definition, Entries, entries_of, most, variable_by}
use Rattle.cv_syntax_trees.specs.sites.Sites.{first_index, first_of, first_site, is_untyped_here, is_untyped_in, sites_of}
use Rattle.cv_directory.specs.Tables.{counted, counts, definition_of, entries_in, entry_at, firsts, indices, no_entries, noted, nothing, others, seen, seen_site, untyped_of}
use Rattle.cv_directory.proofs.Entries.{first_nothing, first_site_law}
use Rattle.cv_syntax_trees.specs.declared.head.Head.{Head}
use Rattle.cv_syntax_trees.specs.declared.head.Head.TheVariants.{Key, Call}
use Rattle.cv_syntax_trees.specs.Tree.{Tree, Empty, Node}
use Rattle.cv_syntax_trees.proofs.lists.Tests.{or_assoc, or_false_back}

-- an entry for a name further on
pub entry_added : (es : List Entry) (y : ℕ) → entry_at (es ++ nothing ∷ []) y ≡ entry_at es y
entry_added [] zero = refl
entry_added [] (suc y) = refl
entry_added (e ∷ es) zero = refl
entry_added (e ∷ es) (suc y) = entry_added es y

-- a table that is written, for one name
module _ (old mid : List Entry) (x : ℕ) (e : Entry) (l : x < length mid) (same : (y : ℕ) → entry_at mid y ≡ entry_at old y) where
  here : (y : ℕ) → (x == y) ≡ true → entry_at (set mid x e) y ≡ e
  here y h = ap (entry_at (set mid x e)) (sym (eqb-true x y h)) ∙ get_or-set_same mid x e nothing l

  there : (y : ℕ) → (x == y) ≡ false → entry_at (set mid x e) y ≡ entry_at old y
  there y h = get_or-set_other mid x y e nothing (λ i. let j = eq-eqb x y (sym i) in absurd (cc)) ∙ same y

  -- something is noted
  pub note_written : {A : Type 0} (f : Entry → Option A) (a : A) → f e ≡ first_of (f (entry_at mid x)) (Some a) → (λ y. f (entry_at (set mid x e) y)) ≡ noted (λ y. f (entry_at old y)) x a
  note_written f a h = fun_ext (λ y. cases y (x == y) refl)
    where
      cases : (y : ℕ) (c : Bool) → (x == y) ≡ c → f (entry_at (set mid x e) y) ≡ first_of (f (entry_at old y)) (cond c (Some a) None)
      cases y true g = ap f (here y g) ∙ (h ∙ (ap (λ i. first_of (f i) (Some a)) (same x) ∙ ap (λ z. first_of (f (entry_at old z)) (Some a)) (eqb-true x y g)))
      cases y false g = ap f (there y g) ∙ sym (first_nothing (f (entry_at old y)))

  -- nothing is noted
  pub same_written : {A : Type 0} (f : Entry → A) → f e ≡ f (entry_at mid x) → ◌≡◌ {A = ℕ → A} (λ y. f (entry_at (set mid x e) y)) (λ y. f (entry_at old y))
  same_written f h = fun_ext (λ y. cases y (x == y) refl)
    where
      cases : (y : ℕ) (c : Bool) → (x == y) ≡ c → f (entry_at (set mid x e) y) ≡ f (entry_at old y)
      cases y true g = ap f (here y g) ∙ (h ∙ (ap f (same x) ∙ ap (λ z. f (entry_at old z)) (eqb-true x y g)))
      cases y false g = ap f (there y g)

  pub count_written : e.count ≡ min ((entry_at mid x).count + 1) most → counts (set mid x e) ≡ counted (counts old) x
  count_written h = fun_ext (λ y. cases y (x == y) refl)
    where
      cases : (y : ℕ) (c : Bool) → (x == y) ≡ c → counts (set mid x e) y ≡ cond c (min (counts old y + 1) most) (counts old y)
      cases y true g = ap (λ (i : Entry). i.count) (here y g) ∙ (h ∙ (ap (λ (i : Entry). min (i.count + 1) most) (same x) ∙ ap (λ z. min (counts old z + 1) most) (eqb-true x y g)))
      cases y false g = ap (λ (i : Entry). i.count) (there y g)

pub entries_are : (trees : List KindTree) (d : Directory) (e : Entries) → firsts trees d.entries.items ≡ e.first → counts d.entries.items ≡ e.count → others d.entries.items ≡ e.other → indices d.entries.items ≡ e.index → entries_in trees d ≡ e
entries_are trees d e f c o j = λ k. record { first = f k; count = c k; other = o k; index = j k }

-- a table with one definition more
pub definition_noted : (trees : List KindTree) (m n : Directory) (mid : List Entry) (x : ℕ) (e f : Entry) (d : Definition) (b : Bool) → x < length mid → ((y : ℕ) → entry_at mid y ≡ entry_at m.entries.items y)
    → n.entries.items ≡ set mid x e → f ≡ get_or mid x f
    → option_map (definition_of trees) e.site ≡ first_of (option_map (definition_of trees) f.site) (Some d) → e.count ≡ min (f.count + 1) most → e.other ≡ cond b (first_of f.other (Some d.place)) f.other → e.index ≡ f.index
    → (let r : Entries = record { first = noted (entries_in trees m).first x d; count = counted (entries_in trees m).count x; other = cond b (noted (entries_in trees m).other x d.place) (entries_in trees m).other; index = (entries_in trees m).index } in entries_in trees n ≡ r)
definition_noted trees m n mid x e f d b l same w g h1 h2 h3 h4 =
    let at : f ≡ entry_at mid x = g ∙ get_or_default mid x f nothing l in
    entries_are trees n _
    (ap (firsts trees) w ∙ note_written m.entries.items mid x e l same (λ (i : Entry). option_map (definition_of trees) i.site) d (h1 ∙ ap (λ (i : Entry). first_of (option_map (definition_of trees) i.site) (Some d)) at))
    (ap counts w ∙ count_written m.entries.items mid x e l same (h2 ∙ ap (λ (i : Entry). min (i.count + 1) most) at))
    (ap others w ∙ other b (h3 ∙ ap (λ (i : Entry). cond b (first_of i.other (Some d.place)) i.other) at))
    (ap indices w ∙ same_written m.entries.items mid x e l same (λ (i : Entry). i.index) (h4 ∙ ap (λ (i : Entry). i.index) at))
  where
    other : (b : Bool) → e.other ≡ cond b (first_of (entry_at mid x).other (Some d.place)) (entry_at mid x).other → others (set mid x e) ≡ cond b (noted (others m.entries.items) x d.place) (others m.entries.items)
    other true h = note_written m.entries.items mid x e l same (λ (i : Entry). i.other) d.place h
    other false h = same_written m.entries.items mid x e l same (λ (i : Entry). i.other) h

-- a table with one index more
pub index_noted : (trees : List KindTree) (m n : Directory) (mid : List Entry) (x : ℕ) (e f : Entry) (p : ℕ) → x < length mid → ((y : ℕ) → entry_at mid y ≡ entry_at m.entries.items y)
    → n.entries.items ≡ set mid x e → f ≡ get_or mid x f
    → e.site ≡ f.site → e.count ≡ f.count → e.other ≡ f.other → e.index ≡ first_of f.index (Some p)
    → (let r : Entries = record (entries_in trees m) { index = noted (entries_in trees m).index x p } in entries_in trees n ≡ r)
index_noted trees m n mid x e f p l same w g h1 h2 h3 h4 =
    let at : f ≡ entry_at mid x = g ∙ get_or_default mid x f nothing l in
    entries_are trees n _
    (ap (firsts trees) w ∙ same_written m.entries.items mid x e l same (λ (i : Entry). option_map (definition_of trees) i.site) (ap (option_map (definition_of trees)) (h1 ∙ ap (λ (i : Entry). i.site) at)))
    (ap counts w ∙ same_written m.entries.items mid x e l same (λ (i : Entry). i.count) (h2 ∙ ap (λ (i : Entry). i.count) at))
    (ap others w ∙ same_written m.entries.items mid x e l same (λ (i : Entry). i.other) (h3 ∙ ap (λ (i : Entry). i.other) at))
    (ap indices w ∙ note_written m.entries.items mid x e l same (λ (i : Entry). i.index) p (h4 ∙ ap (λ (i : Entry). first_of i.index (Some p)) at))

-- what is known where it went well
pub on_ok : {P Q : Type 0} (r : Result (Unit {0}) AllocError) → (P → Q) → OnOk r P → OnOk r Q
on_ok (Ok u) f h = f h
on_ok (Err e) f h = h

-- an empty table
pub nothing_yet : (trees : List KindTree) (d : Directory) → d.entries.items ≡ [] → entries_in trees d ≡ no_entries
nothing_yet trees d e = λ k. record {
  first = λ x. firsts trees (e k) x;
  count = λ x. counts (e k) x;
  other = λ x. others (e k) x;
  index = λ x. indices (e k) x;
}

-- what a directory says of variables and indices alone
pub seen_sites : (trees : List KindTree) (d : Directory) (large : ℕ → Bool) (game : Tree) → entries_in trees d ≡ entries_of large game → ((x : ℕ) → untyped_of d.untyped x ≡ is_untyped_in x game) → seen d ≡ sites_of game
seen_sites trees d large game e u = λ k. record { variable = fun_ext variable k; index = fun_ext index k; untyped = fun_ext u k }
  where
    same : (o : Option Site) → option_map seen_site o ≡ option_map variable_by (option_map (definition_of trees) o)
    same None = refl
    same (Some s) = refl

    variable : (x : ℕ) → (seen d).variable x ≡ first_site x [] game
    variable x = same (entry_at d.entries.items x).site ∙ (ap (λ (r : Entries). option_map variable_by (r.first x)) e ∙ first_site_law x [] 0 game)

    index : (i : ℕ) → (seen d).index i ≡ first_index i game
    index i = ap (λ (r : Entries). r.index i) e

-- keys and results of calls

-- one node more
pub untyped_step : (x : ℕ) (t : Tree) (h : Head) (a b : Tree) (u v w : Bool) → t ≡ Node h a b → v ≡ (u || is_untyped_here x h) → w ≡ (v || is_untyped_in x a) → (w || is_untyped_in x b) ≡ (u || is_untyped_in x t)
unfolding is_untyped_in
untyped_step x t h a b u v w e f g =
    ap (λ c. c || is_untyped_in x b) (g ∙ ap (λ c. c || is_untyped_in x a) f)
    ∙ (or_assoc (u || is_untyped_here x h) (is_untyped_in x a) (is_untyped_in x b)
    ∙ (or_assoc u (is_untyped_here x h) (is_untyped_in x a || is_untyped_in x b)
    ∙ ap (λ r. u || is_untyped_in x r) (sym e)))

pub untyped_end : (x : ℕ) (t : Tree) (u : Bool) → t ≡ Empty → u ≡ (u || is_untyped_in x t)
unfolding is_untyped_in
untyped_end x t u e = or_false_back u ∙ ap (λ r. u || is_untyped_in x r) (sym e)
