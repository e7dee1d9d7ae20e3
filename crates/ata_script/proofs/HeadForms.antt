-- The forms of head lines; a line for each form.
use Rattle.std.proofs.Common.{◌≡◌, ℕ, Bool, true, false, not, ◌&&◌, ◌||◌, List, [], ◌∷◌, ◌++◌, refl, ap, codes, decimal}
use Rattle.std.specs.Prelude.{if◌then◌else◌}
use Rattle.std.specs.Str.{bytes_eq}
use Rattle.ata_trace.specs.Parts.{first, later, none_left}
use Rattle.ata_trace.specs.Reading.{number_in}
use Rattle.ata_trace.specs.Told.{second, third, fourth, fifth, after_three, after_four, after_five}
use Rattle.ata_script.specs.Fields.{Field, spell}
use Rattle.ata_script.specs.Fields.Field.{Small, Number}
use Rattle.ata_script.specs.Forms.{a_port, direct_form, pmp_form, direct_drain_form, fbs_form, drain_form, fbs_drain_form, drive_form, first_head_forms, second_head_forms}
use Rattle.ata_script.specs.Items.{item_words, word_if, place_word}
use Rattle.ata_script.specs.Taking.{drain_for, last_for, tail_for, options_in, port_form_for, port_item, drive_item, place_in}
use Rattle.ata_script.proofs.Forms.{EachIs, IsAmong, small_is, over_at, pick, either}

-- the form of a head line, in version 2 or not
abbrev pub head_form : Bool → List (List ℕ) → List Field
head_form two ws = if bytes_eq (first ws) (codes "port") then port_form_for two ws else drive_form

pub one_each : (words : List (List ℕ)) → EachIs first_head_forms words (head_form false words)
one_each words = (
  λ f.
      let port : first words ≡ codes "port" = small_is direct_form words 0 (codes "port") f refl in
      let link : third words ≡ codes "direct" = small_is direct_form words 2 (codes "direct") f refl in
      rw (port, link) refl,
  (
    λ f.
        let port : first words ≡ codes "port" = small_is pmp_form words 0 (codes "port") f refl in
        let link : third words ≡ codes "pmp" = small_is pmp_form words 2 (codes "pmp") f refl in
        rw (port, link) refl,
    (
      λ f.
          let drive : first words ≡ codes "drive" = small_is drive_form words 0 (codes "drive") f refl in
          rw drive refl,
      tt,
    ),
  ),
)

pub two_each : (words : List (List ℕ)) → EachIs second_head_forms words (head_form true words)
two_each words = (
  λ f.
      let port : first words ≡ codes "port" = small_is direct_form words 0 (codes "port") f refl in
      let link : third words ≡ codes "direct" = small_is direct_form words 2 (codes "direct") f refl in
      let end : none_left (after_three words) ≡ true = over_at direct_form words 3 f in
      rw (port, link, end) refl,
  (
    λ f.
        let port : first words ≡ codes "port" = small_is pmp_form words 0 (codes "port") f refl in
        let link : third words ≡ codes "pmp" = small_is pmp_form words 2 (codes "pmp") f refl in
        let end : none_left (after_four words) ≡ true = over_at pmp_form words 4 f in
        rw (port, link, end) refl,
    (
      λ f.
          let drive : first words ≡ codes "drive" = small_is drive_form words 0 (codes "drive") f refl in
          rw drive refl,
      (
        λ f.
            let port : first words ≡ codes "port" = small_is direct_drain_form words 0 (codes "port") f refl in
            let link : third words ≡ codes "direct" = small_is direct_drain_form words 2 (codes "direct") f refl in
            let end : none_left (after_three words) ≡ false = over_at direct_drain_form words 3 f in
            rw (port, link, end) refl,
        (
          λ f.
              let port : first words ≡ codes "port" = small_is fbs_form words 0 (codes "port") f refl in
              let link : third words ≡ codes "pmp" = small_is fbs_form words 2 (codes "pmp") f refl in
              let more : none_left (after_four words) ≡ false = over_at fbs_form words 4 f in
              let word : fifth words ≡ codes "fbs" = small_is fbs_form words 4 (codes "fbs") f refl in
              let end : none_left (after_five words) ≡ true = over_at fbs_form words 5 f in
              rw (port, link, more, word, end) refl,
          (
            λ f.
                let port : first words ≡ codes "port" = small_is drain_form words 0 (codes "port") f refl in
                let link : third words ≡ codes "pmp" = small_is drain_form words 2 (codes "pmp") f refl in
                let more : none_left (after_four words) ≡ false = over_at drain_form words 4 f in
                let word : fifth words ≡ codes "drain" = small_is drain_form words 4 (codes "drain") f refl in
                rw (port, link, more, word) refl,
            (
              λ f.
                  let port : first words ≡ codes "port" = small_is fbs_drain_form words 0 (codes "port") f refl in
                  let link : third words ≡ codes "pmp" = small_is fbs_drain_form words 2 (codes "pmp") f refl in
                  let more : none_left (after_four words) ≡ false = over_at fbs_drain_form words 4 f in
                  let word : fifth words ≡ codes "fbs" = small_is fbs_drain_form words 4 (codes "fbs") f refl in
                  let end : none_left (after_five words) ≡ false = over_at fbs_drain_form words 5 f in
                  rw (port, link, more, word, end) refl,
              tt,
            ),
          ),
        ),
      ),
    ),
  ),
)

pub one_among : (words : List (List ℕ)) → IsAmong first_head_forms (head_form false words)
one_among words =
    either (IsAmong first_head_forms) (bytes_eq (first words) (codes "port")) _ _
    (either (λ fields. IsAmong first_head_forms (Small (codes "port") ∷ a_port ∷ fields)) (bytes_eq (third words) (codes "direct")) _ _ (0, refl) (1, refl))
    (2, refl)

pub two_among : (words : List (List ℕ)) → IsAmong second_head_forms (head_form true words)
two_among words =
    let tail = either (λ fields. IsAmong second_head_forms (Small (codes "port") ∷ a_port ∷ Small (codes "pmp") ∷ Number 1 15 ∷ fields)) in
    either (IsAmong second_head_forms) (bytes_eq (first words) (codes "port")) _ _
    (either (λ fields. IsAmong second_head_forms (Small (codes "port") ∷ a_port ∷ fields)) (bytes_eq (third words) (codes "direct")) _ _
    (either (λ fields. IsAmong second_head_forms (Small (codes "port") ∷ a_port ∷ Small (codes "direct") ∷ fields)) (none_left (after_three words)) _ _ (0, refl) (3, refl))
    (tail (none_left (after_four words)) _ _ (1, refl)
    (tail (bytes_eq (fifth words) (codes "fbs")) _ _
    (either (λ fields. IsAmong second_head_forms (Small (codes "port") ∷ a_port ∷ Small (codes "pmp") ∷ Number 1 15 ∷ Small (codes "fbs") ∷ fields)) (none_left (after_five words)) _ _ (4, refl) (6, refl))
    (5, refl))))
    (2, refl)

-- what is read of a head line is spelled as its form is

drain_spelt : (ws : List (List ℕ)) → word_if (not (none_left ws)) (codes "drain") ≡ spell (drain_for ws) ws
drain_spelt [] = refl
drain_spelt (word ∷ ws) = refl

last_spelt : (two : Bool) (ws : List (List ℕ)) → word_if (two && not (none_left ws)) (codes "drain") ≡ spell (last_for two ws) ws
last_spelt true ws = drain_spelt ws
last_spelt false ws = refl

tail_spelt : (two : Bool) (ws : List (List ℕ)) → word_if (options_in two ws).0 (codes "fbs") ++ word_if (options_in two ws).1 (codes "drain") ≡ spell (tail_for two ws) ws
tail_spelt two ws =
    pick {A = Bool × Bool} (λ options fields. word_if options.0 (codes "fbs") ++ word_if options.1 (codes "drain") ≡ spell fields ws) (not two || none_left ws) _ _ _ _ refl
    (pick {A = Bool × Bool} (λ options fields. word_if options.0 (codes "fbs") ++ word_if options.1 (codes "drain") ≡ spell fields ws) (bytes_eq (first ws) (codes "fbs")) _ _ _ _
    (ap (λ rest. codes "fbs" ∷ rest) (drain_spelt (later ws))) refl)

pub port_spelt : (two : Bool) (ws : List (List ℕ)) → item_words (port_item two ws) ≡ spell (port_form_for two ws) ws
port_spelt two ws =
    pick (λ item fields. item_words item ≡ spell (Small (codes "port") ∷ a_port ∷ fields) ws) (bytes_eq (third ws) (codes "direct")) _ _ _ _
    (ap (λ rest. codes "port" ∷ decimal (number_in 0 7 (second ws)) ∷ codes "direct" ∷ rest) (last_spelt two (after_three ws)))
    (ap (λ rest. codes "port" ∷ decimal (number_in 0 7 (second ws)) ∷ codes "pmp" ∷ decimal (number_in 1 15 (fourth ws)) ∷ rest) (tail_spelt two (after_four ws)))

place_spelt : (word : List ℕ) → place_word (place_in word) ≡ (if bytes_eq word (codes "-") then codes "-" else decimal (number_in 0 14 word))
place_spelt word = pick (λ place spelt. place_word place ≡ spelt) (bytes_eq word (codes "-")) _ _ _ _ refl refl

pub drive_spelt : (ws : List (List ℕ)) → item_words (drive_item ws) ≡ spell drive_form ws
drive_spelt ws = rw (place_spelt (fourth ws)) refl
