use Rattle.std.proofs.Common.{rules, option_map, subst}
use Rattle.dlms_telegram.specs.Telegram.{IsNone}
use Rattle.dlms_listen.proofs.TelegramLemmas.{unread}
use Rattle.dlms_listen.proofs.receiver.Receiver.receive_telegram.Goals as goal

pub returns-in_err-telegram-2-clause-err : goal.returns-in_err-telegram-2-clause-err
returns-in_err-telegram-2-clause-err c =
    let none : IsNone c.open_telegram.new.plain.items = subst IsNone c.as_slice.ensures.value c.in_err-telegram-2.ensures.err.1 in
    search (rules, unread (option_map (λ k. k.now.stations.items) c.args.self.now.keys) c.args.self.now.senders.all.items c.args.octets.now c.open_telegram.new.plain.items c.in_ok-seal.seal, none, c.in_err-telegram-2.ensures.err.0, c.in_ok-seal.ensures.ok)
