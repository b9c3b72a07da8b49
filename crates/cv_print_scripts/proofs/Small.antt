-- The small step, its names, its text and its signs.
use Rattle.std.proofs.Common.{◌≡◌, ℕ, zero, suc, true, false, List, [], ◌∷◌, length, Some, inl, inr, refl, sym, ◌∙◌, subst, codes}
use Rattle.std.specs.Prelude.{slice_get}
use Rattle.std.proofs.lemmas.Slice.Eq.{bytes_eq-Decides}
use Rattle.cv_parse_tables.specs.spelling.ScriptSpelling.{word_with}
use Rattle.cv_parse_tables.specs.terminals.Signs.{place_of}
use Rattle.cv_parse_tables.specs.spelling.Spelling.{mark_of_text}
use Rattle.cv_print_bytes.specs.Known.{AreNames, IsName}
use Rattle.cv_print_scripts.specs.steps.Shown.{row_signs, tree_shown}
use Rattle.cv_print_scripts.specs.steps.Trees.{IsTree}
use Rattle.cv_print_tables.specs.Prints.{single_items, tree_text}
use Rattle.cv_script.specs.rows.Rows.{script_rows, step_row}
use Rattle.cv_syntax_trees.specs.Tree.{lone}
use Rattle.cv_syntax_trees.specs.declared.head.Head.TheVariants.{Name}
use Rattle.cv_print_scripts.specs.Known.{is_known}
use Rattle.cv_print_scripts.specs.Texts.{words_among}
use Rattle.cv_print_scripts.specs.Worked.{small, small_behind, small_names, small_signs}

at_place : (i : ℕ) (t : List ℕ) → slice_get small_names i ≡ Some t → i ≡ place_of small_names t
at_place zero t e = let h : codes "bool" ≡ t = cc in subst (λ x. 0 ≡ place_of small_names x) h refl
at_place (suc zero) t e = let h : codes "move" ≡ t = cc in subst (λ x. 1 ≡ place_of small_names x) h refl
at_place (suc (suc zero)) t e = let h : codes "x" ≡ t = cc in subst (λ x. 2 ≡ place_of small_names x) h refl
at_place (suc (suc (suc i))) t e = absurd (cc)

is_name : (x : ℕ) (t : List ℕ) → slice_get small_names (suc x) ≡ Some t → IsName t
unfolding mark_of_text
is_name zero t e = let h : codes "move" ≡ t = cc in subst IsName h (record { token = refl; no_mark = refl; not_find = λ f. let no : false ≡ true = (bytes_eq-Decides (codes "move") (codes "find")).1 f in cc })
is_name (suc zero) t e = let h : codes "x" ≡ t = cc in subst IsName h (record { token = refl; no_mark = refl; not_find = λ f. cc })
is_name (suc (suc x)) t e = absurd (cc)

pub are : AreNames small_names
are = record { bool_first = refl; each = is_name; apart = λ i j t a b. at_place i t a ∙ sym (at_place j t b) }

pub known : is_known (length small_names) small ≡ true
unfolding is_known
known = refl

pub text : tree_text script_rows small_names 1 step_row small ≡ codes "rename move to x"
unfolding tree_text single_items
text = refl

pub signs : row_signs (words_among small_behind) script_rows 1 step_row small ≡ small_signs
unfolding tree_shown single_items word_with
signs = refl

pub made_so : IsTree script_rows 1 step_row small
unfolding IsTree
made_so =
    let cell = lone (Name 1) in
    let name = lone (Name 2) in (
      small ∷ [],
      refl,
      record {
        front = small ∷ [];
        back = [];
        parts = refl;
        first = inr (inr (inr (inr (inr (inr (inr (inr (inr (inl (record {
          front = small ∷ [];
          back = [];
          parts = refl;
          first = (
            small,
            refl,
            (
              cell ∷ name ∷ [],
              refl,
              record {
                front = [];
                back = cell ∷ name ∷ [];
                parts = refl;
                first = refl;
                second =
                    record {
                      front = [];
                      back = cell ∷ name ∷ [];
                      parts = refl;
                      first = refl;
                      second =
                          record {
                            front = cell ∷ [];
                            back = name ∷ [];
                            parts = refl;
                            first = (cell, refl, (0, refl));
                            second =
                                record {
                                  front = [];
                                  back = name ∷ [];
                                  parts = refl;
                                  first = refl;
                                  second =
                                      record {
                                        front = [];
                                        back = name ∷ [];
                                        parts = refl;
                                        first = refl;
                                        second =
                                            record {
                                              front = [];
                                              back = name ∷ [];
                                              parts = refl;
                                              first = refl;
                                              second =
                                                  record { front = name ∷ []; back = []; parts = refl; first = (name, refl, (1, refl)); second = refl };
                                            };
                                      };
                                };
                          };
                    };
              },
            ),
          );
          second = refl;
        }))))))))));
        second = refl;
      },
    )
