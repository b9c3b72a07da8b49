-- Declarations, one after another.
use Rattle.std.proofs.Common.{◌≡◌, ℕ, ◌-◌, ◌<◌, ◌≤◌, true, false, List, [], ◌∷◌, ◌++◌, length, drop, refl, ap, sym, ◌∙◌, append_assoc, append-nil}
use Rattle.std.specs.Prelude.{map, flat_map}
use Rattle.std.specs.List.{AllByRecursion}
use Rattle.std.proofs.lemmas.List.{map-append}
use Rattle.cv_syntax_trees.specs.Declarations.{Declaration}
use Rattle.cv_parse_notation.specs.declared.sign.Sign.{Sign}
use Rattle.cv_parse_notation.specs.Form.{many}
use Rattle.cv_parse_notation.specs.Spells.{next_is, starts}
use Rattle.cv_parse_notation.specs.Reads.{Read}
use Rattle.cv_parse_grammar.specs.declared.role.Role.{Role}
use Rattle.cv_parse_declarations.specs.declared.signature.heard.Heard.{Heard}
use Rattle.cv_parse_terms.specs.declared.trail.Trail.{Trail}
use Rattle.cv_parse_grammar.specs.Rules.{heads}
use Rattle.cv_parse_grammar.specs.Declarations.{declaration}
use Rattle.cv_parse_terms.specs.Gives.{read_in}
use Rattle.cv_parse_declarations.specs.signature.Declares.{IsDeclared, IsWhole, heard_of, parts_of}
use Rattle.cv_parse_declarations.specs.Sequences.{AreDeclared, joined}
use Rattle.cv_parse_terms.proofs.Rows.{SoFar, many_begins, many_goes, many_done, read_grows}

-- the declarations so far
pub record DeclaredSoFar (n : ℕ) (all : List Sign) (old new : Trail) (before after : List Heard) (whole : Read Role (List (List Declaration))) (place : ℕ) : Type 0 where
  pub value : List (List Declaration)
  pub read : SoFar n declaration all old.uses.items new.uses.items whole value place
  pub heard : after ≡ before ++ map heard_of (joined value)
  pub makes : new.makes.items ≡ old.makes.items ++ flat_map parts_of (joined value)
  pub sound : AllByRecursion IsWhole (joined value)

joined_last : (xs : List (List Declaration)) (ds : List Declaration) → joined (xs ++ ds ∷ []) ≡ joined xs ++ ds
joined_last [] ds = append-nil ds
joined_last (x ∷ xs) ds = ap (λ l. x ++ l) (joined_last xs ds) ∙ sym (append_assoc x (joined xs) ds)

parts_append : (xs ys : List Declaration) → flat_map parts_of (xs ++ ys) ≡ flat_map parts_of xs ++ flat_map parts_of ys
parts_append [] ys = refl
parts_append (x ∷ xs) ys = ap (λ l. parts_of x ++ l) (parts_append xs ys) ∙ sym (append_assoc (parts_of x) (flat_map parts_of xs) (flat_map parts_of ys))

all_append : (xs ys : List Declaration) → AllByRecursion IsWhole xs → AllByRecursion IsWhole ys → AllByRecursion IsWhole (xs ++ ys)
all_append [] ys h k = k
all_append (x ∷ xs) ys h k = (h.0, all_append xs ys h.1 k)

pub decls_begin : (n : ℕ) (all : List Sign) (t : Trail) (h : List Heard) (at : ℕ) → at ≤ length all → DeclaredSoFar n all t t h h (read_in n (many false declaration) (drop at all)) at
decls_begin n all t h at l = record { value = []; read = many_begins n declaration all t.uses.items at l; heard = sym (append-nil h); makes = sym (append-nil t.makes.items); sound = tt }

pub decls_go : (n : ℕ) (all : List Sign) (t u v : Trail) (f g h : List Heard) (whole : Read Role (List (List Declaration))) (p q : ℕ) → DeclaredSoFar n all t u f g whole p → next_is (starts heads declaration) (drop p all) ≡ true → IsDeclared all u v g h (read_in n declaration (drop p all)) q → DeclaredSoFar n all t v f h whole q
decls_go n all t u v f g h whole p q so b d = record {
  value = so.value ++ d.value ∷ [];
  read = many_goes n declaration refl refl all t.uses.items u.uses.items v.uses.items whole so.value _ p d.value q so.read b d.read refl;
  heard =
      d.heard
      ∙ (ap (λ l. l ++ map heard_of d.value) so.heard
      ∙ (append_assoc f (map heard_of (joined so.value)) (map heard_of d.value) ∙ ap (λ l. f ++ l) (sym (map-append heard_of (joined so.value) d.value) ∙ ap (map heard_of) (sym (joined_last so.value d.value)))));
  makes =
      d.makes
      ∙ (ap (λ l. l ++ flat_map parts_of d.value) so.makes
      ∙ (append_assoc t.makes.items (flat_map parts_of (joined so.value)) (flat_map parts_of d.value) ∙ ap (λ l. t.makes.items ++ l) (sym (parts_append (joined so.value) d.value) ∙ ap (flat_map parts_of) (sym (joined_last so.value d.value)))));
  sound = let e = joined_last so.value d.value in rw e (all_append (joined so.value) d.value so.sound d.whole);
}

pub decls_done : (n : ℕ) (all : List Sign) (t u : Trail) (f g : List Heard) (whole : Read Role (List (List Declaration))) (p : ℕ) → DeclaredSoFar n all t u f g whole p → next_is (starts heads declaration) (drop p all) ≡ false → AreDeclared all t u f g whole p
decls_done n all t u f g whole p so b = record { value = so.value; read = many_done n declaration refl refl all t.uses.items u.uses.items whole so.value p so.read b; heard = so.heard; makes = so.makes; whole = so.sound }

pub decls_nearer : (n : ℕ) (all : List Sign) (t u : Trail) (f g : List Heard) (p q : ℕ) → p ≤ length all → IsDeclared all t u f g (read_in n declaration (drop p all)) q → length all - q < length all - p
decls_nearer n all t u f g p q l d = read_grows n declaration refl refl all t.uses.items u.uses.items p q d.value l d.read
