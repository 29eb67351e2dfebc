-- The labels and the spots of lines, one line after another.
use Rattle.std.proofs.Common.{◌≡◌, ◌≤◌, ◌+◌, ◌-◌, ℕ, Bool, true, false, if◌then◌else◌, List, [], ◌∷◌, ◌++◌, drop, length, map, Option, Some, None, Bor, refl, sym, ap, ◌∙◌, subst, arith, append_assoc, append-nil}
use Rattle.std.proofs.Math.Path.{fun_ext}
use Rattle.std.proofs.lemmas.List.{drop-drop, map-append}
use Rattle.a32_forms.specs.Cuts.{before_code}
use Rattle.a32_forms.specs.Text.{front_word}
use Rattle.a32_asm.specs.declared.layout.Spot.{Spot}
use Rattle.a32_asm.specs.declared.layout.TextLayout.{TextLayout}
use Rattle.a32_asm.specs.declared.lines.Line.{Line}
use Rattle.a32_asm.specs.declared.places.LabelPlace.{LabelPlace}
use Rattle.a32_asm.specs.Lines.{lines_of, label_of, has_label, front_of, is_ascii, before_comment, head_of, statement_of}
use Rattle.a32_asm.specs.Layout.{layout_of, Label, place, start, place_in, indent_of, labels_here, labels_of, labels_from, next_spot, end_from, line_size}
use Rattle.a32_asm.specs.inner.Labels.{place_named}
use Rattle.a32_asm.specs.inner.Places.{label_at, Rise}
use Rattle.a32_asm.specs.inner.Seen.{lines_left, text_left, bytes_left, spot_behind, places_here, layout_seen}
use Rattle.a32_asm.proofs.LineLabels.{label_named, label_within}

-- ---- the labels of lines

labels_line : (spot : Spot) (read : ℕ) (line : List ℕ) (lines : List (List ℕ))
    → labels_from spot read (line ∷ lines) ≡ labels_of spot read line ++ labels_from (next_spot spot line) (read + line_size line lines) lines
unfolding labels_from
labels_line spot read line lines = refl

labels_none : (spot : Spot) (read : ℕ) → labels_from spot read [] ≡ []
unfolding labels_from
labels_none spot before = refl

end_line : (spot : Spot) (line : List ℕ) (lines : List (List ℕ)) → end_from spot (line ∷ lines) ≡ end_from (next_spot spot line) lines
unfolding end_from
end_line spot line lines = refl

end_none : (spot : Spot) → end_from spot [] ≡ spot
unfolding end_from
end_none spot = refl

-- ---- labels stand in the order of their lines

abbrev places_of : List Label → List LabelPlace
places_of labels = map (λ label. label.place) labels

rise_later : (least from : ℕ) (places : List LabelPlace) → least ≤ from → Rise from places → Rise least places
rise_later least from [] le rise = tt
rise_later least from (place ∷ places) le rise = (omega (arith, le, rise.0), rise.1)

rise_line : (b : Bool) (spot : Spot) (read : ℕ) (line : List ℕ) (lines : List (List ℕ)) (later : List Label) → has_label (front_of line) ≡ b
    → Rise (read + line_size line lines) (places_of later)
    → Rise read (places_of (labels_here (place spot (read + indent_of line)) (if b then Some (front_word (front_of line)) else None) ++ later))
rise_line true spot read line lines later is rise =
    (omega arith, rise_later (read + indent_of line + 1) (read + line_size line lines) (places_of later) (omega (arith, label_within line lines is)) rise)
rise_line false spot read line lines later is rise = rise_later read (read + line_size line lines) (places_of later) (omega arith) rise

labels_rise : (spot : Spot) (read : ℕ) (lines : List (List ℕ)) → Rise read (places_of (labels_from spot read lines))
unfolding labels_from
labels_rise spot read [] = tt
labels_rise spot read (line ∷ lines) =
    rise_line (has_label (front_of line)) spot read line lines (labels_from (next_spot spot line) (read + line_size line lines) lines) refl
    (labels_rise (next_spot spot line) (read + line_size line lines) lines)

-- ---- what the lines that are left add gives what all lines give

pub record HoldsAt (spot : Spot) (places : List LabelPlace) (text rest : List ℕ) (left : ℕ) (lines : List (List ℕ)) : Type 0 where
  pub labels : map (label_at text) places ++ labels_from spot (length text - left) lines ≡ labels_from start 0 (lines_of text)
  pub end : end_from spot lines ≡ end_from start (lines_of text)
  pub within : left ≤ length text
  pub stands : rest ≡ drop (length text - left) text

abbrev pub Holds : Spot → List LabelPlace → List ℕ → Option (Bor (List ℕ)) → Type 0
Holds spot places text left = HoldsAt spot places text (text_left left) (bytes_left left) (lines_left left)

module _ (spot : Spot) (places new : List LabelPlace) (text rest line : List ℕ) (after : Option (Bor (List ℕ)))
    (lines : lines_of rest ≡ line ∷ lines_left after)
    (bytes : length rest ≡ line_size line (lines_left after) + bytes_left after)
    (front : line ≡ before_code 10 rest)
    (behind : text_left after ≡ drop (line_size line (lines_left after)) rest)
    (held : HoldsAt spot places text rest (length rest) (lines_of rest))
    (adds : new ≡ places ++ places_here (place spot (length text - length rest + indent_of line)) (label_of line)) where
  abbrev read : ℕ
  read = length text - length rest

  abbrev pub next : Spot
  next = next_spot spot line

  abbrev later : List Label
  later = labels_from next (length text - bytes_left after) (lines_left after)

  read_later : read + line_size line (lines_left after) ≡ length text - bytes_left after
  read_later = omega (arith, bytes, held.within)

  all_labels : labels_of spot read line ++ later ≡ labels_from spot read (lines_of rest)
  all_labels =
      ap (λ r. labels_of spot read line ++ labels_from next r (lines_left after)) (sym read_later)
      ∙ sym (labels_line spot read line (lines_left after))
      ∙ ap (labels_from spot read) (sym lines)

  labels_next : map (label_at text) new ++ later ≡ labels_from start 0 (lines_of text)
  labels_next =
      ap (λ l. map (label_at text) l ++ later) adds
      ∙ ap (λ l. l ++ later) (map-append (label_at text) places (places_here (place spot (read + indent_of line)) (label_of line)))
      ∙ append_assoc (map (label_at text) places) (map (label_at text) (places_here (place spot (read + indent_of line)) (label_of line))) later
      ∙ ap (λ l. map (label_at text) places ++ (l ++ later)) (label_named text rest line read held.stands front spot)
      ∙ ap (λ l. map (label_at text) places ++ l) all_labels
      ∙ held.labels

  pub held_next : Holds next new text after
  held_next = record {
    labels = labels_next;
    end = sym (end_line spot line (lines_left after)) ∙ ap (end_from spot) (sym lines) ∙ held.end;
    within = omega (arith, bytes, held.within);
    stands = behind ∙ ap (drop (line_size line (lines_left after))) held.stands ∙ drop-drop (line_size line (lines_left after)) read text
        ∙ ap (λ n. drop n text) read_later;
  }

-- the spot behind a line that was read
pub spot_read : (spot : Spot) (read : Line) (line : List ℕ) → read.is_ascii ≡ is_ascii (before_comment line) → read.head ≡ head_of (statement_of line)
    → read.statement.now ≡ statement_of line → spot_behind spot read ≡ next_spot spot line
unfolding next_spot
spot_read spot read line ascii head statement = rw (ascii, head, statement) refl

pub held_after : (spot next : Spot) (places new : List LabelPlace) (text : List ℕ) (left after : Option (Bor (List ℕ))) (rest : Bor (List ℕ)) (line : List ℕ)
    (indent : ℕ) (label : Option (List ℕ))
    → left ≡ Some rest
    → Holds spot places text left
    → lines_of rest.now ≡ line ∷ lines_left after
    → length rest.now ≡ line_size line (lines_left after) + bytes_left after
    → line ≡ before_code 10 rest.now
    → text_left after ≡ drop (line_size line (lines_left after)) rest.now
    → indent ≡ indent_of line
    → label ≡ label_of line
    → new ≡ places ++ places_here (place spot (length text - length rest.now + indent)) label
    → next ≡ next_spot spot line
    → Holds next new text after
held_after spot there places new text left after rest line indent label is held lines bytes front behind indented named adds moved =
    subst (λ s. Holds s new text after) (sym moved)
    (held_next spot places new text rest.now line after lines bytes front behind (subst (Holds spot places text) is held)
    (adds ∙ ap (λ n. places ++ places_here (place spot (length text - length rest.now + n)) label) indented
    ∙ ap (λ l. places ++ places_here (place spot (length text - length rest.now + indent_of line)) l) named))

-- ---- the end

module _ (places : List LabelPlace) (spot : Spot) (text : List ℕ) (left : Option (Bor (List ℕ))) (is : left ≡ None) (held : Holds spot places text left) where
  done : Holds spot places text None
  done = subst (Holds spot places text) is held

  all_placed : map (label_at text) places ≡ labels_from start 0 (lines_of text)
  all_placed =
      sym (append-nil (map (label_at text) places))
      ∙ ap (λ l. map (label_at text) places ++ l) (sym (labels_none spot (length text - 0)))
      ∙ done.labels

  placed_again : (l : List LabelPlace) → places_of (map (label_at text) l) ≡ l
  placed_again [] = refl
  placed_again (z ∷ l) = ap (λ m. z ∷ m) (placed_again l)

  pub places_rise : Rise 0 places
  places_rise = subst (Rise 0) (ap places_of (sym all_placed) ∙ placed_again places) (labels_rise start 0 (lines_of text))

  pub layout_held : (layout : TextLayout) → ((name : List ℕ) → place_named layout.labels name ≡ place_in (map (label_at text) places) name)
      → layout.words ≡ spot.words → layout_seen layout ≡ layout_of (lines_of text)
  layout_held layout named words =
      let found : place_named layout.labels ≡ place_in (labels_from start 0 (lines_of text)) = fun_ext (λ name. named name ∙ ap (λ l. place_in l name) all_placed) in
      let count : layout.words ≡ (end_from start (lines_of text)).words = words ∙ ap (λ there. there.words) (sym (end_none spot) ∙ done.end) in
      ap (λ p. record { places = p; words = layout.words }) found ∙ ap (λ w. record { places = place_in (labels_from start 0 (lines_of text)); words = w }) count
