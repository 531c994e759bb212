-- The job of a parsed command line.
use Rattle.std.specs.Str.{bytes_eq}
use Rattle.std.specs.Str.Parse.{without_leading_plus}
use Rattle.std.specs.Prelude.{◌≡◌, ◌⊎◌, ◌||◌, if◌then◌else◌, ◌<◌, ◌↔◌, ◌^◌, ℕ, [], ◌∷◌, List, Option, Some, None, codes, cond, option_map, unwrap_or, Bool, true, false, is_some, IsTrue, slice_get}
use Rattle.clap.specs.Values.{kind_of}
use Rattle.clap.specs.Words.{Row, Text, all_of, first_of}
use Rattle.clap.specs.declared.error.Error.{Error}
use Rattle.clap.specs.declared.error.kind.ErrorKind.TheVariants.{ArgumentConflict, InvalidValue}
use Rattle.dlms_words.specs.declared.commands.Job.{Job}
use Rattle.dlms_words.specs.declared.commands.Job.TheVariants.{Format, Replay, Loopback, Serve, Listen, Poll, Collect, Get, List as ListOf, Profile, Clock, Set, Act, Explain, Show, Plot, Keys, Names, Man, Completions}
use Rattle.dlms_words.specs.declared.commands.Asking.{Asking}
use Rattle.dlms_words.specs.declared.commands.ColorChoice.{ColorChoice}
use Rattle.dlms_words.specs.declared.commands.ColorChoice.TheVariants.{Always, Auto, Never}
use Rattle.dlms_words.specs.declared.commands.Expecting.{Expecting}
use Rattle.dlms_words.specs.declared.commands.MeterOptions.{MeterOptions}
use Rattle.dlms_words.specs.declared.commands.OutputFormat.{OutputFormat}
use Rattle.dlms_words.specs.declared.commands.OutputFormat.TheVariants as output
use Rattle.dlms_words.specs.declared.commands.Shell.{Shell}
use Rattle.dlms_words.specs.declared.commands.Shell.TheVariants.{Bash, Fish, Zsh}
use Rattle.dlms_words.specs.declared.commands.TableFormat.{TableFormat}
use Rattle.dlms_words.specs.declared.commands.TableFormat.TheVariants as table
use Rattle.dlms_words.specs.declared.commands.ValueFormat.{ValueFormat}
use Rattle.dlms_words.specs.declared.commands.ValueFormat.TheVariants as value
use Rattle.dlms_words.specs.declared.commands.ValueFormat.TheVariants.{Encoding}
use Rattle.dlms_words.specs.declared.defaults.TheConstants.{AHEAD, AT_ONCE, CLIENT, DEADLINE, IDLE, INACTIVITY, MOST, THRESHOLD, TICK, TIMEOUT, TURN}
use Rattle.dlms_words.specs.Addresses.{IsAddress, IsPlace}
use Rattle.dlms_words.specs.Numbers.{IsNumberOf}
use Rattle.dlms_frame.specs.declared.client.Client.{Client}
use Rattle.dlms_frame.specs.declared.client.Client.TheVariants.{Public, Management, Reader}

-- the result of a parse: a command's name, and its matches
abbrev pub Met : Type 0
Met = Option (Text × List Row)

-- the file that was found, if one was
abbrev pub file_in : List Row → Option Text
file_in rows = first_of (codes "FILE") rows

-- the text spells this number, of so many bits, with a plus before it or without
abbrev pub Spells : (bits : ℕ) → Text → ℕ → Type 0
Spells bits text n = (n < 2 ^ bits) × IsNumberOf (without_leading_plus text) n

-- The number that the text spells. A text that spells no number of this size is a zero with a minus: `clap` lets nothing else
-- through.
abbrev pub Numbers : (bits : ℕ) → Text → ℕ → Type 0
Numbers bits text number = ((n : ℕ) → Spells bits text n → number ≡ n)
    × (((n : ℕ) → Spells bits text n → ⊥) → number ≡ 0)

-- the number of the text; if none is given, this one
abbrev pub Says : (bits other : ℕ) → Option Text → ℕ → Type 0
Says bits other None number = number ≡ other
Says bits other (Some text) number = Numbers bits text number

-- the number given for this value, or its default: stops; watts, seconds and the like
abbrev pub SaysStops : Option Text → ℕ → Type 0
SaysStops = Says 8 0

abbrev pub IsSaidFor : List ℕ → List Row → (other number : ℕ) → Type 0
IsSaidFor name rows other number = Says 32 other (first_of name rows) number

-- the number of the text, if one is given
abbrev pub MaySay : Option Text → Option ℕ → Type 0
MaySay None number = number ≡ None
MaySay (Some text) number = (n : ℕ) × (number ≡ Some n) × Numbers 32 text n

abbrev pub MaySayFor : List ℕ → List Row → Option ℕ → Type 0
MaySayFor name rows number = MaySay (first_of name rows) number

-- a flag was given: clap finds the word `true` for it then, and else `false`
abbrev pub IsSaid : Option Text → Bool → Type 0
IsSaid found flag = IsTrue flag ↔ (found ≡ Some (codes "true"))

-- by how many seconds a row may be past the system's clock: the given number; if none is given, a day if the clock is to be
-- checked, and otherwise any
abbrev pub SaysAhead : Bool → Option Text → Option ℕ → Type 0
SaysAhead checks None ahead = ahead ≡ cond checks (Some AHEAD) None
SaysAhead checks (Some text) ahead = (number : ℕ) × (ahead ≡ Some number) × Numbers 32 text number

abbrev pub ChecksClock : List Row → Option ℕ → Type 0
ChecksClock rows ahead = (checks : Bool) × IsSaid (first_of (codes "check-clock") rows) checks
    × SaysAhead checks (first_of (codes "ahead") rows) ahead

-- the client that asks: the public client with its flag, otherwise the reader with its flag, otherwise management
abbrev pub asker : (public reader : Bool) → Client
asker true reader = Public
asker false true = Reader
asker false false = Management

abbrev pub IsAsker : List Row → Client → Type 0
IsAsker rows client = (public : Bool) × (reader : Bool)
    × IsSaid (first_of (codes "public") rows) public
    × IsSaid (first_of (codes "reader") rows) reader × (client ≡ asker public reader)

-- how values are printed, by the flags `raw` and `json`: the encoding, if it is wanted, comes before JSON
abbrev pub value_format : (raw json : Bool) → ValueFormat
value_format true json = Encoding
value_format false true = value.Json
value_format false false = value.Text

abbrev pub output_format : (json : Bool) → OutputFormat
output_format true = output.Json
output_format false = output.Text

abbrev pub ChoosesValueFormat : List Row → ValueFormat → Type 0
ChoosesValueFormat rows format = (raw : Bool) × (json : Bool)
    × IsSaid (first_of (codes "raw") rows) raw
    × IsSaid (first_of (codes "json") rows) json × (format ≡ value_format raw json)

abbrev pub table_format : (csv json : Bool) → TableFormat
table_format csv true = table.Json
table_format true false = table.Csv
table_format false false = table.Table

abbrev pub ChoosesTable : List Row → TableFormat → Type 0
ChoosesTable rows format = (csv : Bool) × (json : Bool)
    × IsSaid (first_of (codes "csv") rows) csv
    × IsSaid (first_of (codes "json") rows) json × (format ≡ table_format csv json)

abbrev pub ChoosesFormat : List Row → OutputFormat → Type 0
ChoosesFormat rows format = (json : Bool) × IsSaid (first_of (codes "json") rows) json
    × (format ≡ output_format json)

-- when an explanation is colored, by the word that was given
abbrev pub color_by : Option Text → ColorChoice
color_by None = Auto
color_by (Some text) = if bytes_eq text (codes "always") then Always
    else (if bytes_eq text (codes "never") then Never else Auto)

-- the shell of this name
abbrev pub shell_by : Option Text → Shell
shell_by None = Bash
shell_by (Some text) = if bytes_eq text (codes "zsh") then Zsh
    else (if bytes_eq text (codes "fish") then Fish else Bash)

-- the meter and the way to it: its place and address, the size of its frames, the carrier, the
-- secret, the keys and where the last counter is read, how long an answer is waited for, and how
-- often the meter is called again
pub record IsMeter (rows : List Row) (meter : MeterOptions) : Type 0 where
  pub place : meter.place.now ≡ unwrap_or (first_of (codes "PLACE") rows) []
  pub server : option_map (λ s. s.now) meter.server ≡ first_of (codes "server") rows
  pub wide : IsSaid (first_of (codes "wide") rows) meter.wide
  pub information : MaySayFor (codes "information") rows meter.information
  pub wrapper : IsSaid (first_of (codes "wrapper") rows) meter.wrapper
  pub secret : option_map (λ f. f.now) meter.secret_file ≡ first_of (codes "secret-file") rows
  pub security : option_map (λ f. f.now) meter.security ≡ first_of (codes "security") rows
  pub counter : option_map (λ n. n.now) meter.counter_from ≡ first_of (codes "counter-from") rows
  pub timeout : IsSaidFor (codes "timeout") rows TIMEOUT meter.timeout
  pub retries : MaySayFor (codes "retries") rows meter.retries

-- the meter to ask, the client that asks, whether the frames are explained, and the longest value
pub record IsAsking (rows : List Row) (asking : Asking) : Type 0 where
  pub meter : IsMeter rows asking.meter
  pub client : IsSaidFor (codes "client") rows CLIENT asking.client
  pub verbose : IsSaid (first_of (codes "verbose") rows) asking.verbose
  pub most : IsSaidFor (codes "most") rows MOST asking.most

-- the text at this place among those that were given, if so many were
abbrev pub nth_of : ℕ → Option (List Text) → Option Text
nth_of place None = None
nth_of place (Some texts) = slice_get texts place

-- the first five of the texts that were given
pub record IsExpecting (texts : Option (List Text)) (expecting : Expecting) : Type 0 where
  pub first : option_map (λ text. text.now) expecting.first ≡ nth_of 0 texts
  pub second : option_map (λ text. text.now) expecting.second ≡ nth_of 1 texts
  pub third : option_map (λ text. text.now) expecting.third ≡ nth_of 2 texts
  pub fourth : option_map (λ text. text.now) expecting.fourth ≡ nth_of 3 texts
  pub fifth : option_map (λ text. text.now) expecting.fifth ≡ nth_of 4 texts

-- the command line asks for the job, with these values
abbrev pub Asks : Met → Job → Type 0
Asks met (Format options) = (rows : List Row) × (met ≡ Some (codes "format", rows))
    × (options.file.now ≡ unwrap_or (file_in rows) [])
    × IsSaid (first_of (codes "demo") rows) options.demo
    × IsSaid (first_of (codes "demo-day") rows) options.demo_day
    × IsSaid (first_of (codes "force") rows) options.force
Asks met (Replay file) = (rows : List Row) × (met ≡ Some (codes "replay", rows))
    × (option_map (λ f. f.now) file ≡ file_in rows)
Asks met (Loopback options) = (rows : List Row) × (met ≡ Some (codes "loopback", rows))
    × (option_map (λ f. f.now) options.readings ≡ first_of (codes "readings") rows)
    × SaysStops (first_of (codes "stops") rows) options.stops
Asks met (Serve options) = (rows : List Row) × (met ≡ Some (codes "serve", rows))
    × (options.file.now ≡ unwrap_or (file_in rows) [])
    × (option_map (λ a. a.now) options.listen ≡ first_of (codes "listen") rows)
    × (option_map (λ d. d.now) options.line ≡ first_of (codes "line") rows)
    × IsSaidFor (codes "load") rows 0 options.load
    × IsSaidFor (codes "tick") rows TICK options.tick
    × IsSaid (first_of (codes "quiet") rows) options.quiet
    × IsSaidFor (codes "idle") rows IDLE options.idle
    × IsSaidFor (codes "turn") rows TURN options.turn
    × IsSaidFor (codes "inactivity") rows INACTIVITY options.inactivity
    × IsSaid (first_of (codes "wrapper") rows) options.wrapper
Asks met (Listen options) = (rows : List Row) × (met ≡ Some (codes "listen", rows))
    × (option_map (λ l. l.now) options.line ≡ first_of (codes "LINE") rows)
    × (option_map (λ a. a.now) options.listen ≡ first_of (codes "listen") rows)
    × (option_map (λ f. f.now) options.keys ≡ first_of (codes "keys") rows)
    × (option_map (λ n. n.now) options.csv ≡ first_of (codes "csv") rows)
    × (option_map (λ f. f.now) options.readings ≡ first_of (codes "readings") rows)
    × MaySayFor (codes "count") rows options.count
    × IsSaid (first_of (codes "quiet") rows) options.quiet
    × ChoosesFormat rows options.format
Asks met (Poll options) = (rows : List Row) × (met ≡ Some (codes "poll", rows))
    × IsMeter rows options.meter
    × (option_map (λ f. f.now) options.readings ≡ first_of (codes "readings") rows)
    × IsAsker rows options.client
    × MaySayFor (codes "client") rows options.sap
    × IsSaidFor (codes "deadline") rows DEADLINE options.deadline
    × MaySayFor (codes "rows-per-request") rows options.rows
    × ChecksClock rows options.ahead
    × IsSaid (first_of (codes "strict") rows) options.strict
    × IsExpecting (all_of (codes "expect") rows) options.expecting
    × IsSaid (first_of (codes "quiet") rows) options.quiet
    × ChoosesFormat rows options.format
Asks met (Collect options) = (rows : List Row) × (met ≡ Some (codes "collect", rows))
    × (options.list.now ≡ unwrap_or (first_of (codes "LIST") rows) [])
    × (option_map (λ f. f.now) options.readings ≡ first_of (codes "readings") rows)
    × (option_map (λ f. f.now) options.get ≡ first_of (codes "get") rows)
    × IsSaid (first_of (codes "clock") rows) options.clock
    × IsSaid (first_of (codes "set") rows) options.set
    × IsSaidFor (codes "threshold") rows THRESHOLD options.threshold
    × (option_map (λ f. f.now) options.secret_file ≡ first_of (codes "secret-file") rows)
    × MaySayFor (codes "client") rows options.client
    × IsSaidFor (codes "at-once") rows AT_ONCE options.at_once
    × IsSaidFor (codes "deadline") rows DEADLINE options.deadline
    × MaySayFor (codes "every") rows options.every
    × IsSaidFor (codes "retries") rows 0 options.retries
    × (option_map (λ f. f.now) options.failed ≡ first_of (codes "failed") rows)
    × IsSaid (first_of (codes "quiet") rows) options.quiet
    × ChoosesFormat rows options.format
Asks met (Get options) = (rows : List Row) × (met ≡ Some (codes "get", rows))
    × IsAsking rows options.asking
    × (options.names.now ≡ unwrap_or (first_of (codes "NAMES") rows) [])
    × IsSaidFor (codes "class") rows 0 options.class
    × ChoosesValueFormat rows options.format
Asks met (ListOf options) = (rows : List Row) × (met ≡ Some (codes "list", rows))
    × IsAsking rows options.asking × ChoosesFormat rows options.format
    × IsSaid (first_of (codes "long") rows) options.long
    × IsSaid (first_of (codes "quiet") rows) options.quiet
Asks met (Profile options) = (rows : List Row) × (met ≡ Some (codes "profile", rows))
    × IsAsking rows options.asking
    × (option_map (λ n. n.now) options.name ≡ first_of (codes "NAME") rows)
    × (option_map (λ t. t.now) options.from ≡ first_of (codes "from") rows)
    × (option_map (λ t. t.now) options.to ≡ first_of (codes "to") rows)
    × MaySayFor (codes "last") rows options.last
    × ChoosesTable rows options.format
    × IsSaid (first_of (codes "raw") rows) options.raw
    × IsSaid (first_of (codes "quiet") rows) options.quiet
Asks met (Clock options) = (rows : List Row) × (met ≡ Some (codes "clock", rows))
    × IsAsking rows options.asking
    × IsSaid (first_of (codes "set") rows) options.set
    × IsSaidFor (codes "threshold") rows THRESHOLD options.threshold
    × ChoosesFormat rows options.format
Asks met (Set options) = (rows : List Row) × (met ≡ Some (codes "set", rows))
    × IsAsking rows options.asking
    × (options.name.now ≡ unwrap_or (first_of (codes "NAME") rows) [])
    × (options.value.now ≡ unwrap_or (first_of (codes "VALUE") rows) [])
    × IsSaidFor (codes "class") rows 0 options.class
    × ChoosesFormat rows options.format
Asks met (Act options) = (rows : List Row) × (met ≡ Some (codes "act", rows))
    × IsAsking rows options.asking
    × (options.name.now ≡ unwrap_or (first_of (codes "NAME") rows) [])
    × (option_map (λ v. v.now) options.value ≡ first_of (codes "VALUE") rows)
    × IsSaidFor (codes "class") rows 0 options.class
    × ChoosesFormat rows options.format
Asks met (Explain options) = (rows : List Row) × (met ≡ Some (codes "explain", rows))
    × (option_map (λ f. f.now) options.file ≡ file_in rows)
    × IsSaid (first_of (codes "raw") rows) options.raw
    × IsSaid (first_of (codes "short") rows) options.short
    × IsSaid (first_of (codes "hex") rows) options.hex × ChoosesFormat rows options.format
    × (option_map (λ f. f.now) options.keys ≡ first_of (codes "keys") rows)
    × (options.color ≡ color_by (first_of (codes "color") rows))
    × (option_map (λ f. f.now) options.html ≡ first_of (codes "html") rows)
    × (option_map (λ f. f.now) options.page ≡ first_of (codes "page") rows)
    × IsSaid (first_of (codes "quiet") rows) options.quiet
Asks met (Show options) = (rows : List Row) × (met ≡ Some (codes "show", rows))
    × (options.file.now ≡ unwrap_or (file_in rows) [])
    × IsSaid (first_of (codes "plot") rows) options.plot
    × ChoosesFormat rows options.format
Asks met (Plot options) = (rows : List Row) × (met ≡ Some (codes "plot", rows))
    × (options.readings.now ≡ unwrap_or (first_of (codes "READINGS") rows) [])
    × IsSaid (first_of (codes "svg") rows) options.svg
    × ChoosesFormat rows options.format
    × (option_map (λ r. r.now) options.register ≡ first_of (codes "register") rows)
    × (option_map (λ t. t.now) options.from ≡ first_of (codes "from") rows)
    × (option_map (λ t. t.now) options.to ≡ first_of (codes "to") rows)
    × IsSaid (first_of (codes "quiet") rows) options.quiet
Asks met (Keys options) = (rows : List Row) × (met ≡ Some (codes "keys", rows))
    × (options.action.now ≡ unwrap_or (first_of (codes "ACTION") rows) [])
    × (options.file.now ≡ unwrap_or (file_in rows) [])
    × IsSaidFor (codes "first") rows 0 options.first
Asks met (Names word) = (rows : List Row) × (met ≡ Some (codes "names", rows))
    × (word.now ≡ unwrap_or (first_of (codes "WORD") rows) [])
Asks met Man = (rows : List Row) × (met ≡ Some (codes "man", rows))
Asks met (Completions shell) = (rows : List Row) × (met ≡ Some (codes "completions", rows))
    × (shell ≡ shell_by (first_of (codes "SHELL") rows))

-- the commands that make or run a meter, or poll many
abbrev pub meter_commands : List Text
meter_commands = codes "format" ∷ codes "replay" ∷ codes "loopback" ∷ codes "serve"
    ∷ codes "listen" ∷ codes "collect" ∷ []

-- the commands that make a request of any meter
abbrev pub requests : List Text
requests = codes "get" ∷ codes "list" ∷ codes "profile" ∷ codes "clock" ∷ codes "set" ∷ codes "act"
    ∷ []

-- the commands that need no meter
abbrev pub others : List Text
others = codes "explain" ∷ codes "show" ∷ codes "plot" ∷ codes "keys" ∷ codes "names"
    ∷ codes "man" ∷ codes "completions" ∷ []

-- what was found is none of these commands
abbrev pub IsNoneOf : List Text → Met → Type 0
IsNoneOf [] met = Unit {0}
IsNoneOf (name ∷ names) met = (option_map (λ p. p.0) met ≡ Some name → ⊥) × IsNoneOf names met

-- ---- words that clap takes, and that ask for nothing all the same

-- two flags of this command are given
abbrev pub GivesBoth : (command first second : Text) → Met → Type 0
GivesBoth command first second met = (rows : List Row) × (met ≡ Some (command, rows))
    × (first_of first rows ≡ Some (codes "true")) × (first_of second rows ≡ Some (codes "true"))

-- an option of this command is named, and a flag is given
abbrev pub NamesAnd : (command option flag : Text) → Met → Type 0
NamesAnd command option flag met = (rows : List Row) × (met ≡ Some (command, rows))
    × IsTrue (is_some (first_of option rows)) × (first_of flag rows ≡ Some (codes "true"))

-- two clients are asked for at once
abbrev pub AsksTwoClients : Met → Type 0
AsksTwoClients = GivesBoth (codes "poll") (codes "public") (codes "reader")

-- two days of captures are asked for
abbrev pub AsksTwoDemos : Met → Type 0
AsksTwoDemos = GivesBoth (codes "format") (codes "demo") (codes "demo-day")

-- a client is given by its address and by its name
abbrev pub GivesClientTwice : Met → Type 0
GivesClientTwice met =
    NamesAnd (codes "poll") (codes "client") (codes "public") met
    ⊎ NamesAnd (codes "poll") (codes "client") (codes "reader") met

-- a port and a serial line are named at once
abbrev pub NamesTwoPlaces : Met → Type 0
NamesTwoPlaces met = (rows : List Row) × (met ≡ Some (codes "serve", rows))
    × IsTrue (is_some (first_of (codes "listen") rows))
    × IsTrue (is_some (first_of (codes "line") rows))

-- a serial line, which carries HDLC, is to carry the wrapper
abbrev pub WrapsLine : Met → Type 0
WrapsLine = NamesAnd (codes "serve") (codes "line") (codes "wrapper")

-- a wrapper port, which has two octets, is to be sent in four
abbrev pub WidensPort : Met → Type 0
WidensPort met = (command : Text) × (rows : List Row) × (met ≡ Some (command, rows))
    × (first_of (codes "wide") rows ≡ Some (codes "true"))
    × (first_of (codes "wrapper") rows ≡ Some (codes "true"))

-- a size of frames is proposed, and the line carries the wrapper, which has none
abbrev pub SizesMessages : Met → Type 0
SizesMessages met = (command : Text) × (rows : List Row) × (met ≡ Some (command, rows))
    × IsTrue (is_some (first_of (codes "information") rows))
    × (first_of (codes "wrapper") rows ≡ Some (codes "true"))

-- the association is to be protected, and a secret is to be sent in clear
abbrev pub ShowsSecret : Met → Type 0
ShowsSecret met = (command : Text) × (rows : List Row) × (met ≡ Some (command, rows))
    × IsTrue (is_some (first_of (codes "security") rows))
    × IsTrue (is_some (first_of (codes "secret-file") rows))

-- the meter's last counter is to be read for an association that is not protected
abbrev pub ReadsIdleCounter : Met → Type 0
ReadsIdleCounter met = (command : Text) × (rows : List Row) × (met ≡ Some (command, rows))
    × IsTrue (is_some (first_of (codes "counter-from") rows))
    × (first_of (codes "security") rows ≡ None)

-- texts are expected, for which the meter is asked in clear, and the association is to be protected
abbrev pub ExpectsInClear : Met → Type 0
ExpectsInClear met = (command : Text) × (rows : List Row) × (met ≡ Some (command, rows))
    × IsTrue (is_some (first_of (codes "expect") rows))
    × IsTrue (is_some (first_of (codes "security") rows))

-- the meters of a list are to be polled, and to be asked for attributes
abbrev pub CollectsBoth : Met → Type 0
CollectsBoth met = (rows : List Row) × (met ≡ Some (codes "collect", rows))
    × IsTrue (is_some (first_of (codes "readings") rows))
    × IsTrue (is_some (first_of (codes "get") rows))

-- their clocks are to be compared, and they are to be polled, or to be asked for attributes
abbrev pub ComparesToo : Met → Type 0
ComparesToo met = NamesAnd (codes "collect") (codes "readings") (codes "clock") met
    ⊎ NamesAnd (codes "collect") (codes "get") (codes "clock") met

-- none of the three is wanted
abbrev pub CollectsNothing : Met → Type 0
CollectsNothing met = (rows : List Row) × (met ≡ Some (codes "collect", rows))
    × (first_of (codes "readings") rows ≡ None) × (first_of (codes "get") rows ≡ None)
    × (first_of (codes "clock") rows ≡ Some (codes "true") → ⊥)

-- two options of this command are named
abbrev pub NamesBoth : (command first second : Text) → Met → Type 0
NamesBoth command first second met = (rows : List Row) × (met ≡ Some (command, rows))
    × IsTrue (is_some (first_of first rows)) × IsTrue (is_some (first_of second rows))

-- a report is wanted, and a layout of its text
abbrev pub LaysOutReport : Met → Type 0
LaysOutReport met = NamesAnd (codes "explain") (codes "html") (codes "json") met
    ⊎ NamesAnd (codes "explain") (codes "html") (codes "short") met
    ⊎ NamesAnd (codes "explain") (codes "html") (codes "hex") met

-- a report is wanted, and what its text shows
abbrev pub FillsReport : Met → Type 0
FillsReport met = NamesAnd (codes "explain") (codes "html") (codes "raw") met
    ⊎ NamesBoth (codes "explain") (codes "html") (codes "keys") met
    ⊎ NamesBoth (codes "explain") (codes "html") (codes "color") met

-- a report is wanted, which is explained once it is opened, and how its text is printed
abbrev pub PrintsReport : Met → Type 0
PrintsReport met = LaysOutReport met ⊎ FillsReport met

-- a page is named for no report
abbrev pub PagesNothing : Met → Type 0
PagesNothing met = (rows : List Row) × (met ≡ Some (codes "explain", rows))
    × IsTrue (is_some (first_of (codes "page") rows)) × (first_of (codes "html") rows ≡ None)

-- a flag of this command is given without the other one, which it needs
abbrev pub GivesAlone : (command flag other : Text) → Met → Type 0
GivesAlone command flag other met = (rows : List Row) × (met ≡ Some (command, rows))
    × (first_of flag rows ≡ Some (codes "true"))
    × (first_of other rows ≡ Some (codes "true") → ⊥)

-- an option of this command is named without a flag, which it needs
abbrev pub NamesAlone : (command option flag : Text) → Met → Type 0
NamesAlone command option flag met = (rows : List Row) × (met ≡ Some (command, rows))
    × IsTrue (is_some (first_of option rows)) × (first_of flag rows ≡ Some (codes "true") → ⊥)

-- clocks are to be set, and not compared
abbrev pub SetsUnseen : Met → Type 0
SetsUnseen = GivesAlone (codes "collect") (codes "set") (codes "clock")

-- it is given how far off a clock may be, and none is to be set
abbrev pub SetsNothing : Met → Type 0
SetsNothing = NamesAlone (codes "collect") (codes "threshold") (codes "set")

-- two are given and one is wanted, or one is given that needs another
abbrev pub AsksBoth : Met → Type 0
AsksBoth met = AsksTwoClients met ⊎ GivesClientTwice met ⊎ NamesTwoPlaces met ⊎ WrapsLine met
    ⊎ AsksTwoDemos met ⊎ WidensPort met ⊎ SizesMessages met ⊎ ShowsSecret met ⊎ ReadsIdleCounter met
    ⊎ ExpectsInClear met ⊎ CollectsBoth met ⊎ ComparesToo met ⊎ CollectsNothing met
    ⊎ PrintsReport met ⊎ PagesNothing met ⊎ SetsUnseen met ⊎ SetsNothing met

-- the text that the command line gives for this option or operand of the command
abbrev pub value_in : Text → Met → Option Text
value_in name None = None
value_in name (Some (command, rows)) = first_of name rows

-- the address to listen on is invalid
abbrev pub NamesNoAddress : Met → Type 0
NamesNoAddress met = (text : Text) × (value_in (codes "listen") met ≡ Some text)
    × (IsAddress text → ⊥)

-- the word for the meter is not a place
abbrev pub NamesNoPlace : Met → Type 0
NamesNoPlace met = (text : Text) × (value_in (codes "PLACE") met ≡ Some text)
    × (IsPlace text → ⊥)

abbrev pub is_color : Text → Bool
is_color text = bytes_eq text (codes "auto")
    || (bytes_eq text (codes "always") || bytes_eq text (codes "never"))

abbrev pub is_shell : Text → Bool
is_shell text = bytes_eq text (codes "bash")
    || (bytes_eq text (codes "zsh") || bytes_eq text (codes "fish"))

-- when to color is said, and by none of the three words
abbrev pub NamesNoColor : Met → Type 0
NamesNoColor met = (text : Text) × (value_in (codes "color") met ≡ Some text)
    × (is_color text ≡ false)

-- completions are wanted for a shell that is none of the three
abbrev pub NamesNoShell : Met → Type 0
NamesNoShell met = (text : Text) × (value_in (codes "SHELL") met ≡ Some text)
    × (is_shell text ≡ false)

-- a value is invalid
abbrev pub IsInvalid : Met → Type 0
IsInvalid met = NamesNoAddress met ⊎ NamesNoPlace met ⊎ NamesNoColor met ⊎ NamesNoShell met

-- neither is so
abbrev pub IsClear : Met → Type 0
IsClear met = (AsksBoth met → ⊥) × (IsInvalid met → ⊥)

-- one of them is, which the error says
abbrev pub IsUnclear : Met → Error → Type 0
IsUnclear met e = (AsksBoth met × (kind_of e ≡ ArgumentConflict))
    ⊎ (IsInvalid met × (kind_of e ≡ InvalidValue))
