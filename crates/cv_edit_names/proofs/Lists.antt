-- Branches before others as lists of their nodes behind their children.
use Rattle.std.proofs.Common.{◌≡◌, ℕ, List, [], ◌∷◌, ◌++◌, map, reverse, refl, sym, ap, ap₂, ◌∙◌, arith, append_assoc, append-nil}
use Rattle.std.specs.Prelude.{flat_map}
use Rattle.std.proofs.lemmas.List.{map-append, reverse-append}
use Rattle.std.proofs.lemmas.List.Concat.{flat_map-append}
use Rattle.cv_syntax_trees.specs.declared.head.Head.{Head}
use Rattle.cv_syntax_trees.specs.declared.head.Head.TheVariants.{Branch, Cons}
use Rattle.cv_syntax_trees.specs.Tree.{Tree, Empty, Node}
use Rattle.cv_syntax.specs.declared.make.Make.{Make}
use Rattle.cv_syntax.specs.declared.make.Make.TheVariants as make
use Rattle.cv_syntax.specs.Postorder.{postorder}
use Rattle.cv_edit_names.specs.Splitting.{followed_by}

-- a link for each
abbrev pub links_of : List Tree → List Head
links_of bs = map (λ (t : Tree). Cons) bs

abbrev ups : List Head → List Make
ups hs = map make.Over (reverse hs)

up_first : (hs : List Head) → ups hs ++ make.Over Cons ∷ [] ≡ ups (Cons ∷ hs)
up_first hs = sym (ap (map make.Over) (reverse-append (Cons ∷ []) hs) ∙ map-append make.Over (reverse hs) (Cons ∷ []))

pub followed_listed : (bs : List Tree) (rest : Tree) → postorder (followed_by bs rest) ≡ flat_map postorder bs ++ (postorder rest ++ ups (links_of bs))
unfolding postorder
followed_listed [] rest = sym (append-nil (postorder rest))
followed_listed (b ∷ bs) rest =
    let F : List Make = flat_map postorder bs in
    let R : List Make = postorder rest in
    let M : List Make = ups (links_of bs) in
    let up : List Make = make.Over Cons ∷ [] in
    ap (λ m. postorder b ++ (m ++ up)) (followed_listed bs rest)
    ∙ (ap (λ m. postorder b ++ m) (append_assoc F (R ++ M) up ∙ ap (λ m. F ++ m) (append_assoc R M up ∙ ap (λ m. R ++ m) (up_first (links_of bs))))
    ∙ sym (append_assoc (postorder b) F (R ++ ups (links_of (b ∷ bs)))))

followed_append : (bs cs : List Tree) (rest : Tree) → followed_by (bs ++ cs) rest ≡ followed_by bs (followed_by cs rest)
followed_append [] cs rest = refl
followed_append (b ∷ bs) cs rest = ap (λ t. Node Cons b t) (followed_append bs cs rest)

-- what was listed of branches, and what is still to come
pub record Listing (old new : List Make) (heads : List Head) (game rest : Tree) (done : List Tree) : Type 0 where
  pub made : new ≡ old ++ flat_map postorder done
  pub links : heads ≡ links_of done
  pub whole : game ≡ followed_by done rest

pub nothing_listed : (old : List Make) (whole : Tree) → Listing old old [] whole whole []
nothing_listed old whole = record { made = sym (append-nil old); links = refl; whole = refl }

pub more_listed : (old new more : List Make) (links higher : List Head) (whole rest later : Tree) (done copies : List Tree) → Listing old new links whole rest done → rest ≡ followed_by copies later → more ≡ new ++ flat_map postorder copies → higher ≡ links ++ links_of copies → Listing old more higher whole later (done ++ copies)
more_listed old new more links higher whole rest later done copies l e f g = record {
  made = f ∙ (ap (λ m. m ++ flat_map postorder copies) l.made ∙ (append_assoc old (flat_map postorder done) (flat_map postorder copies) ∙ ap (λ m. old ++ m) (sym (flat_map-append postorder done copies))));
  links = g ∙ (ap (λ m. m ++ links_of copies) l.links ∙ sym (map-append (λ (t : Tree). Cons) done copies));
  whole = l.whole ∙ (ap (followed_by done) e ∙ sym (followed_append done copies later));
}

pub all_listed : (old new more all : List Make) (links : List Head) (whole rest : Tree) (done : List Tree) → Listing old new links whole rest done → more ≡ new ++ postorder rest → all ≡ more ++ map make.Over (reverse links) → all ≡ old ++ postorder whole
all_listed old new more all links whole rest done l f g =
    let F : List Make = flat_map postorder done in
    g ∙ (ap₂ (λ m hs. m ++ ups hs) f l.links
    ∙ (append_assoc new (postorder rest) (ups (links_of done))
    ∙ (ap (λ m. m ++ (postorder rest ++ ups (links_of done))) l.made
    ∙ (append_assoc old F (postorder rest ++ ups (links_of done))
    ∙ ap (λ m. old ++ m) (sym (ap postorder l.whole ∙ followed_listed done rest))))))

-- a node behind its children
pub node_listed : (old one two all : List Make) (h : Head) (a b : Tree) → one ≡ old ++ postorder a → two ≡ one ++ postorder b → all ≡ two ++ make.Over h ∷ [] → all ≡ old ++ postorder (Node h a b)
unfolding postorder
node_listed old one two all h a b e f g =
    g ∙ (ap (λ m. m ++ make.Over h ∷ []) (f ∙ ap (λ m. m ++ postorder b) e)
    ∙ (append_assoc (old ++ postorder a) (postorder b) (make.Over h ∷ []) ∙ append_assoc old (postorder a) (postorder b ++ make.Over h ∷ [])))

pub nothing_behind : (old all : List Make) (t : Tree) → t ≡ Empty → all ≡ old ++ make.Nothing ∷ [] → all ≡ old ++ postorder t
unfolding postorder
nothing_behind old all t e f = f ∙ ap (λ u. old ++ postorder u) (sym e)

-- a branch behind its parts
pub branch_listed : (old one two three four five six seven : List Make) (us cells c body : Tree) → one ≡ old ++ postorder us → two ≡ one ++ postorder cells → three ≡ two ++ postorder c → four ≡ three ++ postorder body
    → five ≡ four ++ make.Over Cons ∷ [] → six ≡ five ++ make.Over Cons ∷ [] → seven ≡ six ++ make.Over Branch ∷ [] → seven ≡ old ++ postorder (Node Branch us (Node Cons cells (Node Cons c body)))
branch_listed old one two three four five six seven us cells c body a b d e f g h =
    let inner : five ≡ two ++ postorder (Node Cons c body) = node_listed two three four five Cons c body d e f in
    let middle : six ≡ one ++ postorder (Node Cons cells (Node Cons c body)) = node_listed one two five six Cons cells (Node Cons c body) b inner g in
    node_listed old one six seven Branch us (Node Cons cells (Node Cons c body)) a middle h

-- as many links as names
pub links_same : {A B : Type 0} (f : A → Tree) (g : B → A) (ys : List B) → map (λ (t : Tree). Cons) (map f (map g ys)) ≡ map (λ (y : B). Cons) ys
links_same f g [] = refl
links_same f g (y ∷ ys) = ap (λ hs. Cons ∷ hs) (links_same f g ys)
